-- The namespaces of messages.
use Rattle.std.specs.Prelude.{ℕ, List, codes}

-- that of envelopes (SOAP 1.2, part 1, section 5)
abbrev pub envelope_space : List ℕ
envelope_space = codes "http://www.w3.org/2003/05/soap-envelope"

-- that of requests and of responses (IF-MAP binding for SOAP, version 2.2, section 3)
abbrev pub ifmap_space : List ℕ
ifmap_space = codes "http://www.trustedcomputinggroup.org/2010/IFMAP/2"
