-- A telegram that lies whole in the chunk, where nothing is carried: what the call gives and leaves. Assumes nothing.
use Rattle.std.proofs.Common.{◌≡◌, ℕ, ◌+◌, ◌-◌, ◌≤◌, cond, ltb, List, [], ◌∷◌, ◌++◌, length, get_or, take, drop, replicate, sym, refl, ap, ◌∙◌, ap₂, arith, length-drop, take-append-drop, length-take, length-take-le, take-suc, drop-drop, take_at}
use Rattle.telegram.specs.Numbers.{Outcome, done, fitted}
use Rattle.telegram.specs.Telegram.{reading}
use Rattle.telegram.specs.declared.Telegram.{Telegram}
use Rattle.telegram.proofs.Reading.{accepted-count}
use Rattle.frame.specs.Frame.{Cutting, whole, cutting}
use Rattle.frame.proofs.Fronts.{accepted-whole}
use Rattle.capture.specs.State.{going, padded, carrying}
use Rattle.capture.specs.Run.{wrapped}
use Rattle.capture.specs.Calls.{telegram, Given, next_judged, next_cut, nexting}
use Rattle.capture.proofs.States.{zeros-all, next-by}
use Rattle.capture.proofs.Taken.{taken-fresh}
use Rattle.reader.specs.Layout.{standing_in, position_in, position_bytes, state_in, holding}
use Rattle.reader.specs.Interface.{Called, reader_next}
use Rattle.reader.specs.Resting.{AtRest}
use Rattle.reader.proofs.States.{state-by}
use Rattle.reader.proofs.Exits.{next-told}

-- A telegram of the chunk is given, if there is room for it, and only the position moves.
abbrev pub passed : List ℕ → List ℕ → ℕ → Telegram → ℕ → Called
passed mem chunk at t room =
    let k = 4 + t.size in
    let u = take k (drop at chunk) in
    record {
      outcome = fitted room u;
      memory = cond (ltb room (length u)) mem ((take 2 mem ++ position_bytes (wrapped (position_in mem + k))) ++ drop 10 mem);
      at = cond (ltb room (length u)) at (at + k);
    }

module _ (mem : List ℕ) (r : AtRest mem) where
  clear-bytes : take 11 (drop 10 mem) ≡ replicate 11 0
  clear-bytes =
      let n : length (take 11 (drop 10 mem)) ≡ 11 = simp (length-take, length-drop) (omega (arith, r.long)) in
      zeros-all (take 11 (drop 10 mem)) r.clear ∙ ap (λ (k : ℕ). replicate k 0) n

  -- Memory at rest holds a reading that carries nothing.
  pub rest-state : state_in mem ≡ done (carrying [] (position_in mem))
  rest-state =
      sym (state-by mem r.long (done going) (ap (λ (p : ℕ). standing_in p (get_or mem 1 0) (get_or mem 10 0) (get_or mem 11 0)) (sym r.phase)))
      ∙ ap₂ (λ (n : ℕ) (b : List ℕ). done (record { standing = going; count = n; position = position_in mem; bytes = b })) r.none
      (ap (λ (l : List ℕ). l ++ 0 ∷ []) clear-bytes)

  front-two : take 2 mem ≡ 0 ∷ 0 ∷ []
  front-two =
      take-suc mem 1 0 (omega (arith, r.long)) ∙ ap₂ (λ (l : List ℕ) (x : ℕ). l ++ x ∷ []) (take-suc mem 0 0 (omega (arith, r.long))) r.none
      ∙ ap (λ (x : ℕ). x ∷ 0 ∷ []) r.phase

  -- Where only the position changes, the other bytes are those that a state at rest has.
  pub rest-moved : (p : ℕ) → (take 2 mem ++ position_bytes p) ++ drop 10 mem ≡ holding (carrying [] p) mem
  rest-moved p =
      let d : drop 10 mem ≡ replicate 11 0 ++ drop 21 mem =
      sym (take-append-drop 11 (drop 10 mem)) ∙ ap₂ (λ (x y : List ℕ). x ++ y) clear-bytes (drop-drop 11 10 mem) in
      ap₂ (λ (x y : List ℕ). (x ++ position_bytes p) ++ y) front-two d

  module _ (chunk : List ℕ) (at : ℕ) (t : Telegram) (e : reading (take (4 + t.size) (drop at chunk)) ≡ done t) where
    abbrev k : ℕ
    k = 4 + t.size

    abbrev l : List ℕ
    l = drop at chunk

    pub rest-long : k ≤ length l
    rest-long =
        let n : length (take k l) ≡ k = accepted-count (take k l) t e in
        omega (arith, n, length-take k l)

    shown : cutting l ≡ whole k
    shown =
        sym (ap cutting (take-append-drop k l)) ∙ accepted-whole (take k l) (drop k l) t e ∙ ap whole (length-take-le k l rest-long)

    -- What a call on such a state gives.
    abbrev given : Given
    given =
        record {
          answer = done (telegram t);
          bytes = padded (take k l);
          at = at + (k - 0);
          state = carrying [] (wrapped (position_in mem + k));
        }

    rest-next : given ≡ nexting chunk (carrying [] (position_in mem)) at
    rest-next =
        let s = carrying [] (position_in mem) in
        sym (ap (λ (o : Outcome Telegram). next_judged o (take k l) k s at) e)
        ∙ ap (λ (c : Cutting). next_cut c l (length l) s at) (sym shown)
        ∙ next-by chunk s at (taken-fresh (position_in mem)).leaves going refl

    -- What the function gives and leaves.
    pub rest-called : (room : ℕ) → passed mem chunk at t room ≡ reader_next mem chunk at room
    rest-called room =
        let b : take k l ≡ take k (padded (take k l)) = sym (take_at (take k l) _ k (length-take-le k l rest-long)) in
        let z : at + k ≡ at + (k - 0) = omega arith in
        (λ i. record {
          outcome = fitted room (b i);
          memory = cond (ltb room (length (b i))) mem (rest-moved (wrapped (position_in mem + k)) i);
          at = cond (ltb room (length (b i))) at (z i);
        })
        ∙ next-told mem chunk at room (carrying [] (position_in mem)) given rest-state rest-next
