-- `checksum::checksum` meets its contract: what the closure has carried on is the remainder over the bytes so far.
-- Assumes nothing.
use Rattle.std.proofs.Common.{◌≡◌, [], ◌∷◌, refl, subst, rules}
use Rattle.std.proofs.lemmas.Fn.{fold_over, slice_gives, fronts}
use Rattle.checksum.specs.Checksum.{remainder_from, checksum_of}
use Rattle.checksum.proofs.Laws.{remainder-append}
use Rattle.checksum.proofs.checksum.Goals as goal

pub returns : goal.returns
unfolding checksum_of
returns c =
    subst (λ l. c.fold.result ≡ remainder_from 0 l) c.iter.ensures.rest
    (fold_over fronts (λ y. y.now) _ (λ ys r. r ≡ remainder_from 0 ys) _
    (λ ys a x b f' j k. let more = remainder-append ys (x.now ∷ []) 0 in search rules)
    _ _ _ _ (slice_gives c.iter.result) refl c.fold.ensures.ran)
