-- What the calls on a chain return.
-- Assumes nothing.
use mathlib.Core.Path.{◌≡◌, ◌∙◌, sym}
use mathlib.Core.List.{List, [], ◌∷◌, ◌++◌}
use Prim.Native.Nat.{ℕ, ◌/◌, ◌%◌, ◌<◌}
use native.Mathlib.Omega.{arith}
use lib.ListN.{length}
use Rattle.telegram.specs.Numbers.{Outcome, refused_for, done, counted}
use Rattle.telegram.proofs.Outcomes.{never, done-one}
use Rattle.rules.specs.declared.Lamp.{Lamp}
use Rattle.rules.specs.Chain.{Chain}
use Rattle.chain.specs.Memory.{silent}
use Rattle.chain.proofs.Lengths.{Short}
use Rattle.osp.specs.Interface.{lamp_head, lamp_bytes}

-- A call without an answer counts no bytes ..
pub silent-short : (o : Outcome Chain) {d : Outcome ℕ} → d ≡ silent o → (n : ℕ) → d ≡ done n → n < 65536
silent-short o {d} e n h = go o (sym e ∙ h)
  where
    go : (q : Outcome Chain) → silent q ≡ done n → n < 65536
    go (refused_for d) u = absurd (never u)
    go (done c) u = let z : 0 ≡ n = done-one u in omega arith

-- .. and a short answer few.
pub counted-short : (o : Outcome (List ℕ)) {d : Outcome ℕ} → Short o → d ≡ counted o → (n : ℕ) → d ≡ done n → n < 65536
counted-short o {d} s e n h = go o s (sym e ∙ h)
  where
    go : (q : Outcome (List ℕ)) → Short q → counted q ≡ done n → n < 65536
    go (refused_for d) t u = absurd (never u)
    go (done bs) t u = let z : length bs ≡ n = done-one u in omega arith

-- The bytes of a lamp, from those before its PWM bytes and these.
pub lamp-given : (l : Lamp) {head : List ℕ} {a b c d e f : ℕ} → head ≡ lamp_head l
    → a ≡ l.pwm.red / 256 → b ≡ l.pwm.red % 256 → c ≡ l.pwm.green / 256 → d ≡ l.pwm.green % 256 → e ≡ l.pwm.blue / 256 → f ≡ l.pwm.blue % 256
    → head ++ (a ∷ b ∷ c ∷ d ∷ e ∷ f ∷ []) ≡ lamp_bytes l
lamp-given l h i j k m n o = rw (h, i, j, k, m, n, o)
