-- Which memory holds a valid chain, exit by exit, and what is known of it.
-- Assumes nothing.
use mathlib.Core.Path.{◌≡◌, refl, sym, ap, ◌∙◌}
use mathlib.Core.Logic.{◌≢◌}
use mathlib.Core.Bool.{Bool, true, false, cond, and-false}
use mathlib.Core.List.{List}
use Prim.Native.Nat.{ℕ, ◌≤◌, ◌<◌}
use native.Mathlib.Omega.{arith}
use lib.Dec.{leb, ltb}
use lib.ListN.{length}
use borrow.Author.Tests.{lt-ltb, le-ltb, le-leb, lt-leb, ltb-false, leb-true, not-false}
use Rattle.telegram.proofs.Outcomes.{done-one, passed}
use Rattle.table.proofs.Both.{and_left, and_right}
use Rattle.telegram.specs.Numbers.{refused, done, refuse}
use Rattle.rules.specs.Chain.{lamps_right, Chain, count_right, chain_right}
use Rattle.chain.specs.Record.{header_size, record_length, length_for, count_of, lamps_in, decode, chain_in}
use Rattle.chain.proofs.Places.{length-lamps_in}

-- Where the rest refuses with the same number, the test does not matter.
refuse-same : {A : Type 0} (b : Bool) (n : ℕ) → refuse {A = A} b n (refused n) ≡ refused n
refuse-same true n = refl
refuse-same false n = refl

-- The exits of `chain_in`: memory too short for a header, a wrong count, memory too short for that count, a lamp that is not valid, none of
-- these, and the last two as one test.
module _ (mem : List ℕ) where
  pub chain-short : length mem < header_size → chain_in mem ≡ refused 11
  unfolding chain_in
  chain-short h = simp (lt-ltb _ _ h)

  pub chain-count : count_right (count_of mem) ≡ false → chain_in mem ≡ refused 11
  unfolding chain_in
  chain-count h = simp (h, refuse-same)

  pub chain-room : length mem < record_length (count_of mem) → chain_in mem ≡ refused 11
  unfolding chain_in
  chain-room h = simp (lt-ltb _ _ h, refuse-same)

  pub chain-lamp : lamps_right (lamps_in (count_of mem) mem) ≡ false → chain_in mem ≡ refused 11
  unfolding chain_in decode
  chain-lamp h = simp (h, refuse-same)

  pub chain-done : count_right (count_of mem) ≡ true → record_length (count_of mem) ≤ length mem
      → lamps_right (lamps_in (count_of mem) mem) ≡ true → chain_in mem ≡ done (decode mem)
  unfolding chain_in decode
  chain-done n h a =
      let k : header_size ≤ length mem = omega arith in
      simp (le-ltb _ _ k, n, le-ltb _ _ h, a)

  pub chain-tested : count_right (count_of mem) ≡ true → record_length (count_of mem) ≤ length mem
      → (r : Bool) → r ≡ lamps_right (lamps_in (count_of mem) mem) → cond r (done (decode mem)) (refused 11) ≡ chain_in mem
  chain-tested n h true e = sym (chain-done n h (sym e))
  chain-tested n h false e = sym (chain-lamp (sym e))

-- Too few lamps, too many, and a right count.
module _ (n : ℕ) where
  pub count-few : n < 1 → count_right n ≡ false
  count-few h = simp (lt-leb _ _ h)

  pub count-many : 1007 < n → count_right n ≡ false
  count-many h = simp (lt-leb _ _ h, and-false)

  pub count-right : 1 ≤ n → n ≤ 1007 → count_right n ≡ true
  count-right h k = simp (le-leb _ _ h, le-leb _ _ k)

-- What the length that the code works out for a count tells: 0 that the count is wrong, else that it is right and the record's length.
module _ (n : ℕ) {k : ℕ} (e : k ≡ length_for n) where
  pub count-wrong : k ≡ 0 → count_right n ≡ false
  count-wrong z = go (count_right n) e
    where
      go : (b : Bool) → k ≡ cond b (record_length n) 0 → b ≡ false
      go true q = absurd (omega arith)
      go false q = refl

  pub count-known : k ≢ 0 → count_right n ≡ true
  count-known h = go (count_right n) e
    where
      go : (b : Bool) → k ≡ cond b (record_length n) 0 → b ≡ true
      go true q = refl
      go false q = absurd (h q)

  pub length-known : k ≢ 0 → k ≡ record_length n
  length-known h = e ∙ ap (λ (b : Bool). cond b (record_length n) 0) (count-known h)

-- A right count is at most 1007.
pub count_most : (n : ℕ) → count_right n ≡ true → n ≤ 1007
count_most n h = leb-true n 1007 (and_right (leb 1 n) _ h)

-- No record is longer than that of 1007 lamps.
pub record-small : (n : ℕ) → length_for n ≤ record_length 1007
record-small n = go (count_right n) refl
  where
    go : (b : Bool) → count_right n ≡ b → cond b (record_length n) 0 ≤ record_length 1007
    go true e = omega (arith, count_most n e)
    go false e = omega arith

-- What is known of memory that holds a valid chain.
pub record Valid (mem : List ℕ) (c : Chain) : Type 0 where
  pub same : c ≡ decode mem
  pub room : record_length (count_of mem) ≤ length mem
  pub right : chain_right c ≡ true
  pub some : 1 ≤ count_of mem
  pub most : count_of mem ≤ 1007

-- Where `chain_in` is done, memory has that.
pub chain-in : (mem : List ℕ) (c : Chain) → chain_in mem ≡ done c → Valid mem c
unfolding chain_in chain_right decode
chain-in mem c e =
    let p₁ = passed (ltb (length mem) header_size) 11 _ e in
    let p₂ = passed _ _ _ p₁.1 in
    let p₃ = passed _ _ _ p₂.1 in
    let p₄ = passed _ _ _ p₃.1 in
    let q : decode mem ≡ c = done-one p₄.1 in
    let n : count_right (count_of mem) ≡ true = not-false _ p₂.0 in
    let a : lamps_right (lamps_in (count_of mem) mem) ≡ true = not-false _ p₄.0 in
    record {
      same = sym q;
      room = ltb-false _ _ p₃.0;
      right = rw (← q, length-lamps_in, n) a;
      some = leb-true 1 (count_of mem) (and_left _ _ n);
      most = count_most (count_of mem) n;
    }
