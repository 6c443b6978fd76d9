-- How much a drill makes.
use Rattle.std.specs.Prelude.{ℕ}

-- how many clients there are; each has one event in a block
abbrev pub client_count : ℕ
client_count = 10

-- the first events: a session and a subscription of each client
abbrev pub first_events : ℕ
first_events = 20

-- when the first event is
abbrev pub first_moment : ℕ
first_moment = 1_000_000_000

-- how many events there are in a second
abbrev pub events_each_second : ℕ
events_each_second = 100

-- how many addresses there are
abbrev pub address_count : ℕ
address_count = 1000

-- how far the own addresses of clients are apart
abbrev pub address_distance : ℕ
address_distance = 100

-- how far the ends of a link are apart at most
abbrev pub most_apart : ℕ
most_apart = 3

-- within how many links of the client's own address a subscription is
abbrev pub subscription_depth : ℕ
subscription_depth = 20

-- the most bytes of the result of a search
abbrev pub largest_result : ℕ
largest_result = 1_000_000
