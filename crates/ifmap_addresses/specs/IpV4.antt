-- IPv4 addresses as texts: RFC 791, section 3.2, in the dotted decimal form of RFC 3986, section 3.2.2.
use Rattle.std.specs.Prelude.{ℕ, List}
use Rattle.std.specs.Net.Grammar.{IsDotted}
use Rattle.std.specs.Net.Text.{ipv4_text}

-- the text is four decimal numbers below 256 without leading zeros, joined by dots; the value is these four
abbrev pub IsIpV4 : List ℕ → List ℕ → Type 0
IsIpV4 text value = IsDotted text value

-- the one text of a value
abbrev pub ip_v4_text : List ℕ → List ℕ
ip_v4_text value = ipv4_text value
