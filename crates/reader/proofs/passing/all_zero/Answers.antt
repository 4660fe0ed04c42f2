-- `reader::passing::all_zero` meets its contract: what the closure has carried on tells of the bytes so far. Assumes nothing.
use Rattle.std.proofs.Common.{◌≡◌, ℕ, Bool, true, false, ◌&&◌, eqb, List, [], ◌∷◌, ◌++◌, refl, ap, ◌∙◌, subst, rules}
use Rattle.std.proofs.lemmas.Fn.{fold_over, slice_gives, fronts}
use Rattle.capture.specs.State.{zeros}
use Rattle.reader.proofs.passing.all_zero.Goals as goal

joined : (a b c : Bool) → ((a && b) && c) ≡ (a && (b && c))
joined true b c = refl
joined false b c = refl

last : (a : Bool) → a ≡ (a && true)
last true = refl
last false = refl

-- one byte more
zeros-more : (s : List ℕ) (b : ℕ) → (zeros s && eqb b 0) ≡ zeros (s ++ b ∷ [])
zeros-more [] b = last (eqb b 0)
zeros-more (x ∷ s) b = joined (eqb x 0) (zeros s) (eqb b 0) ∙ ap (λ (t : Bool). eqb x 0 && t) (zeros-more s b)

pub returns : goal.returns
returns c =
    subst (λ l. c.fold.result ≡ zeros l) c.iter.ensures.rest
    (fold_over fronts (λ y. y.now) _ (λ ys r. r ≡ zeros ys) _
    (λ ys a x b f' j k. let more = zeros-more ys x.now in search rules)
    _ _ _ _ (slice_gives c.iter.result) refl c.fold.ensures.ran)
