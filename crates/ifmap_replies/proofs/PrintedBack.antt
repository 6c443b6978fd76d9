-- The bytes of a reply that is fit mean it.
use Rattle.std.proofs.Common.{◌≤◌, arith, subst, sym}
use Rattle.ifmap_elem.specs.Canonical.{canonical_bytes, canonical_reading}
use Rattle.ifmap_elem.specs.Fit.{IsFit}
use Rattle.ifmap_elem.specs.Nesting.{nesting}
use Rattle.ifmap_elem.specs.Spells.{Spells}
use Rattle.ifmap_elem.specs.declared.elements.Element.{Element}
use Rattle.ifmap_elem.specs.laws.GoodElements.{IsGood}
use Rattle.ifmap_replies.specs.declared.replies.Reply.{Reply}
use Rattle.ifmap_replies.specs.Means.{IsReplyOf, MeansReply}
use Rattle.ifmap_replies.specs.Results.{reply_bytes, reply_element}

module _ (spelled : (e : Element) → IsFit e → Spells (canonical_bytes e) (canonical_reading e)) where
  pub bytes_back : (answer : Reply) → IsGood 71 (reply_element answer) → IsReplyOf (reply_element answer) answer
      → MeansReply (reply_bytes answer) answer
  unfolding reply_bytes
  bytes_back answer good meant =
      let e = reply_element answer in
      record {
        reading = canonical_reading e;
        spelled = spelled e good.fit;
        shallow = let within = good.within in
            subst (λ (x : Element). nesting x ≤ 80) (sym good.arranged) (omega (arith, within));
        reply = subst (λ (x : Element). IsReplyOf x answer) (sym good.arranged) meant;
      }
