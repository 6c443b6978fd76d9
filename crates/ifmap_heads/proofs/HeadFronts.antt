-- What holds alike of heads of posts and of answers at the front of bytes, and what no bytes after them can change.
use Rattle.std.proofs.Common.{◌≡◌, ℕ, ◌+◌, ◌<◌, ◌≤◌, ◌⊎◌, inl, inr, List, [], ◌∷◌, ◌++◌, length, sym, ap, ◌∙◌, subst, arith, append_assoc, length-append}
use Rattle.ifmap_lemmas.specs.Joined.{shared_front}
use Rattle.httparse.specs.Ascii.{line_feed}
use Rattle.httparse.specs.Grammar.{IsRequestHead, IsResponseHead, RequestHead, ResponseHead, print_request, print_response}
use Rattle.httparse.proofs.GrammarLemmas.{request_prefix_free, response_prefix_free}
use Rattle.ifmap_heads.specs.Heads.{IsAnswerHead, IsPostHead, line_count}
use Rattle.ifmap_heads.specs.Limits.{longest_head, most_fields, most_lines}
use Rattle.ifmap_heads.proofs.Lines.{lines_grow, lines_of_request, lines_of_response, many_lines}

-- a kind of heads: which there are, how each is printed, how many fields it has, and which begin bytes and are within the limits
pub record HeadKind (Head : Type 0) : Type 1 where
  pub IsHead : Head → Type 0
  pub print : Head → List ℕ
  pub count : Head → ℕ
  pub IsWithin : List ℕ → Head → List ℕ → Type 0
  pub reads : (bytes : List ℕ) (h : Head) (rest : List ℕ) → IsWithin bytes h rest → IsHead h × (bytes ≡ print h ++ rest)
  pub short : (bytes : List ℕ) (h : Head) (rest : List ℕ) → IsWithin bytes h rest → length (print h) ≤ longest_head
  pub few : (bytes : List ℕ) (h : Head) (rest : List ℕ) → IsWithin bytes h rest → count h ≤ most_fields
  pub lines : (h : Head) → IsHead h → count h + 2 ≤ line_count (print h)
  pub is_one : (bytes more : List ℕ) (h k : Head) (rest other : List ℕ) → IsHead h × (bytes ≡ print h ++ rest)
      → IsHead k × (bytes ++ more ≡ print k ++ other) → h ≡ k

abbrev pub posts : HeadKind RequestHead
posts = record {
  IsHead = IsRequestHead;
  print = print_request;
  count = λ h. length h.fields;
  IsWithin = IsPostHead;
  reads = λ bytes h rest is. is.reads;
  short = λ bytes h rest is. is.short;
  few = λ bytes h rest is. is.few;
  lines = lines_of_request;
  is_one = λ bytes more h k rest other reads again. (request_prefix_free bytes more h k rest other reads again).0;
}

abbrev pub answers : HeadKind ResponseHead
answers = record {
  IsHead = IsResponseHead;
  print = print_response;
  count = λ h. length h.fields;
  IsWithin = IsAnswerHead;
  reads = λ bytes h rest is. is.reads;
  short = λ bytes h rest is. is.short;
  few = λ bytes h rest is. is.few;
  lines = λ h is. lines_of_response h;
  is_one = λ bytes more h k rest other reads again. (response_prefix_free bytes more h k rest other reads again).0;
}

module _ {Head : Type 0} (kind : HeadKind Head) where
  abbrev pub Reads : List ℕ → Head → List ℕ → Type 0
  Reads bytes h rest = kind.IsHead h × (bytes ≡ kind.print h ++ rest)

  -- bytes begin with no whole head, and with none within the limits
  abbrev pub HasNone : List ℕ → Type 0
  HasNone bytes = (h : Head) (rest : List ℕ) → ¬ (Reads bytes h rest)

  abbrev pub HasNoneWithin : List ℕ → Type 0
  HasNoneWithin bytes = (h : Head) (rest : List ℕ) → ¬ (kind.IsWithin bytes h rest)

  -- whatever follows
  abbrev pub NeverHas : List ℕ → Type 0
  NeverHas bytes = (more : List ℕ) → HasNone (bytes ++ more)

  -- whatever follows, a head at the front has too many fields
  abbrev pub Overflows : List ℕ → Type 0
  Overflows bytes = (more : List ℕ) (h : Head) (rest : List ℕ) → Reads (bytes ++ more) h rest → most_fields < kind.count h

  -- a prefix and then an empty line are a head with too many fields
  abbrev pub Exceeds : List ℕ → Type 0
  Exceeds bytes =
      (front : List ℕ) × (rest : List ℕ) × (bytes ≡ front ++ rest)
      × (h : Head) × Reads (front ++ line_feed ∷ []) h [] × (most_fields < kind.count h)

  -- no head within the limits is there, and what is there passes them
  pub record PassesLimits (bytes : List ℕ) : Type 0 where
    pub none : HasNoneWithin bytes
    pub passed : (longest_head < length bytes) ⊎ (most_lines ≤ line_count bytes)

  -- a head that is no longer than the bytes so far stands in them
  in_front : (bytes more : List ℕ) (h : Head) (rest : List ℕ) → Reads (bytes ++ more) h rest
      → length (kind.print h) ≤ length bytes → (r : List ℕ) × Reads bytes h r
  in_front bytes more h rest reads le =
      let (middle, p, q) = shared_front (kind.print h) bytes (sym reads.1) le in
      (middle, (reads.0, p))

  pub none_when_long : (bytes more : List ℕ) → HasNone bytes → longest_head < length bytes → HasNoneWithin (bytes ++ more)
  none_when_long bytes more absent long h rest is =
      let (r, reads) = in_front bytes more h rest (kind.reads (bytes ++ more) h rest is)
      (omega (arith, kind.short (bytes ++ more) h rest is)) in
      absent h r reads

  pub none_yet : (bytes : List ℕ) → HasNone bytes → HasNoneWithin bytes
  none_yet bytes absent h rest is = absent h rest (kind.reads bytes h rest is)

  pub never_more : (bytes more : List ℕ) → NeverHas bytes → NeverHas (bytes ++ more)
  never_more bytes more never later h rest reads =
      never (more ++ later) h rest (reads.0, sym (append_assoc bytes more later) ∙ reads.1)

  pub none_ever : (bytes more : List ℕ) → NeverHas bytes → HasNoneWithin (bytes ++ more)
  none_ever bytes more never h rest is = never more h rest (kind.reads (bytes ++ more) h rest is)

  pub none_so_small : (bytes more : List ℕ) → Overflows bytes → HasNoneWithin (bytes ++ more)
  none_so_small bytes more many h rest is =
      omega (arith, many more h rest (kind.reads (bytes ++ more) h rest is), kind.few (bytes ++ more) h rest is)

  none_other : (bytes more : List ℕ) (h : Head) (rest : List ℕ) → Reads bytes h rest
      → (length (kind.print h) ≤ longest_head → kind.count h ≤ most_fields → ⊥) → HasNoneWithin (bytes ++ more)
  none_other bytes more h rest reads past k q is =
      let same = kind.is_one bytes more h k rest q reads (kind.reads (bytes ++ more) k q is) in
      past (subst (λ (x : Head). length (kind.print x) ≤ longest_head) (sym same) (kind.short (bytes ++ more) k q is))
      (subst (λ (x : Head). kind.count x ≤ most_fields) (sym same) (kind.few (bytes ++ more) k q is))

  -- where too many field lines are whole
  pub many_fields : (bytes more : List ℕ) → Overflows bytes → Exceeds bytes → PassesLimits (bytes ++ more)
  many_fields bytes more overflows (front, rest, cut, h, reads, many) =
      let lines = many_lines front rest more (kind.print h) (kind.count h) reads.1 (kind.lines h reads.0) many in
      let passed : most_lines ≤ line_count (bytes ++ more) = rw cut lines in
      record { none = none_so_small bytes more overflows; passed = inr passed }

  -- where the bytes so far pass the limit and no head is among them
  pub many_bytes : (bytes more : List ℕ) → longest_head < length bytes → HasNoneWithin (bytes ++ more) → PassesLimits (bytes ++ more)
  many_bytes bytes more long none =
      let longer : longest_head < length (bytes ++ more) = omega (arith, length-append bytes more) in
      record { none = none; passed = inl longer }

  -- where a whole head is too long
  pub head_too_long : (bytes more : List ℕ) (h : Head) (rest : List ℕ) → Reads bytes h rest
      → longest_head < length (kind.print h) → PassesLimits (bytes ++ more)
  head_too_long bytes more h rest reads long =
      let within : longest_head < length bytes = omega (arith, long, ap length reads.1, length-append (kind.print h) rest) in
      many_bytes bytes more within (none_other bytes more h rest reads (λ short few. omega arith))

  -- where a whole head has too many fields
  pub head_too_wide : (bytes more : List ℕ) (h : Head) (rest : List ℕ) → Reads bytes h rest
      → most_fields < kind.count h → PassesLimits (bytes ++ more)
  head_too_wide bytes more h rest reads many =
      let cut : bytes ++ more ≡ kind.print h ++ (rest ++ more) = rw reads.1 (append_assoc (kind.print h) rest more) in
      let lines : most_lines ≤ line_count (bytes ++ more) =
      rw cut (omega (arith, lines_grow (kind.print h) (rest ++ more), kind.lines h reads.0)) in
      record { none = none_other bytes more h rest reads (λ short few. omega arith); passed = inr lines }

  -- a head has some bytes
  pub head_is_some : (h : Head) (rest : List ℕ) → Reads [] h rest → ⊥
  head_is_some h rest reads =
      omega (arith, ap line_count reads.1, lines_grow (kind.print h) rest, kind.lines h reads.0)
