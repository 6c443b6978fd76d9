use Rattle.std.proofs.Common.{ℕ, List, subst, sym, ◌∙◌}
use Rattle.std.proofs.lemmas.Bool.{false≢true}
use Rattle.std.specs.Fmt.{decimal}
use Rattle.ifmap_meta.specs.ClientNames.{IsClientName}
use Rattle.ifmap_server.specs.Frames.{word_text}
use Rattle.ifmap_server.proofs.Cuts.{header_words, header_utf8, header_shares}
use Rattle.ifmap_server.proofs.headers.header_of.Goals as goal

pub returns-in_default-clause-none : goal.returns-in_default-clause-none
returns-in_default-clause-none c = λ h is.
    c.in_default.ensures (header_utf8 c.args.line.now h is) (decimal h.moment) h.client (word_text h.random) (decimal h.size)
    (header_words c.args.line.now h is)

pub returns-in_default-moment_of-clause-none : goal.returns-in_default-moment_of-clause-none
returns-in_default-moment_of-clause-none c = λ h is.
    let w = c.in-Some.words in
    c.in_default-moment_of.ensures h.moment is.moment (header_shares c.args.line.now w.moment.now w.client.now w.random.now w.size.now
    c.in-Some.ensures h is).moment

pub returns-in_default-hex_word-clause-none : goal.returns-in_default-hex_word-clause-none
returns-in_default-hex_word-clause-none c = λ h is.
    let w = c.in-Some.words in
    c.in_default-hex_word.ensures h.random is.random (header_shares c.args.line.now w.moment.now w.client.now w.random.now w.size.now
    c.in-Some.ensures h is).random

pub returns-in_default-body_size-clause-none : goal.returns-in_default-body_size-clause-none
returns-in_default-body_size-clause-none c = λ h is.
    let w = c.in-Some.words in
    c.in_default-body_size.ensures h.size is.size (header_shares c.args.line.now w.moment.now w.client.now w.random.now w.size.now
    c.in-Some.ensures h is).size

pub returns-in_default-new-clause-none : goal.returns-in_default-new-clause-none
returns-in_default-new-clause-none c = λ h is.
    let w = c.in-Some.words in
    let same = (header_shares c.args.line.now w.moment.now w.client.now w.random.now w.size.now c.in-Some.ensures h is).client in
    false≢true (c.in_default-new.ensures.some.1 (subst (λ (name : List ℕ). IsClientName name) (sym (c.in_ok-from_str.ensures ∙ same))
    is.client))
