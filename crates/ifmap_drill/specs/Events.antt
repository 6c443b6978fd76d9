-- The events of a drill.
use Rattle.std.specs.Prelude.{ℕ, ◌+◌, ◌/◌, ◌%◌, List, ◌++◌, codes, false, length}
use Rattle.std.specs.Fmt.{decimal}
use Rattle.ifmap_core.specs.ifmap_machine.declared.events.Ask.TheVariants as ask
use Rattle.ifmap_core.specs.ifmap_machine.Events.{Event}
use Rattle.ifmap_requests.specs.declared.requests.Request.{Request}
use Rattle.ifmap_writing.specs.RequestElements.{request_bytes}
use Rattle.ifmap_drill.specs.Extent.{client_count, events_each_second, first_moment}

abbrev pub client_name : ℕ → List ℕ
client_name client = codes "d" ++ decimal client

-- event i, which asks a request: a second for each hundred events, and the next random word; a poll that is held is not asked again
abbrev pub event_at : ℕ → Request → Event
event_at i request = record {
  moment = first_moment + i / events_each_second;
  client = client_name (i % client_count);
  random = i + 1;
  again = false;
  bytes = length (request_bytes request);
  ask = ask.Request request;
}
