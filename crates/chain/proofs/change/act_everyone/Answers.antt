-- `chain::change::act_everyone` meets its contract: in an arm of one number the table of changes computes at it.
-- Assumes nothing.
use mathlib.Core.Path.{◌≡◌, ◌∙◌, refl, ap, sym}
use mathlib.Core.Bool.{cond}
use native.Mathlib.Omega.{arith}
use mathlib.Core.List.{List}
use Prim.Native.Nat.{ℕ}
use Rattle.table.specs.Table.{row_of, acknowledged, plain_number}
use Rattle.table.proofs.Table.{right-size}
use Rattle.rules.specs.declared.Defaults.{Defaults}
use Rattle.rules.specs.declared.Lamp.{Lamp}
use Rattle.rules.specs.declared.Words.{Words}
use Rattle.rules.specs.Lamp.{obeys, changed_plain, acted}
use Rattle.chain.specs.Places.{words_at, sweep, lit}
use Rattle.chain.specs.Helpers.{command_in}
use Rattle.chain.proofs.Sweeps.{sweep-alike}
use Rattle.chain.proofs.Changes.{changed-pwm}
use Rattle.chain.proofs.change.act_everyone.Goals as goal

-- a sweep for a number, at the key that it is
swept_at : (mem : List ℕ) (count : ℕ) (d : Defaults) (p : List ℕ) {n k : ℕ} → n ≡ k
    → sweep (λ (q : ℕ) (l : Lamp). acted d (command_in k p) l) 0 count mem ≡ sweep (λ (q : ℕ) (l : Lamp). acted d (command_in n p) l) 0 count mem
swept_at mem count d p e = ap (λ (x : ℕ). sweep (λ (q : ℕ) (l : Lamp). acted d (command_in x p) l) 0 count mem) (sym e)

pub returns-in-4 : goal.returns-in-4
unfolding changed_plain acted plain_number acknowledged
returns-in-4 c = let a = c.args in
    c.go_lamps.ensures ∙ swept_at a.mem.now a.count a.d a.order.payload.now c.in-4.is

pub returns-in-5 : goal.returns-in-5
unfolding changed_plain acted plain_number acknowledged
returns-in-5 c = let a = c.args in
    c.go_lamps-in-5.ensures ∙ swept_at a.mem.now a.count a.d a.order.payload.now c.in-5.is

pub returns-in-6 : goal.returns-in-6
unfolding changed_plain acted plain_number acknowledged
returns-in-6 c = let a = c.args in
    c.go_lamps-in-6.ensures ∙ swept_at a.mem.now a.count a.d a.order.payload.now c.in-6.is

pub words_at-requires : goal.words_at-requires
unfolding row_of
words_at-requires c = omega (arith, right-size 6 c.in-79.is refl c.args.order.fits)

pub returns-in-79 : goal.returns-in-79
unfolding changed_plain acted plain_number acknowledged
returns-in-79 c = let a = c.args in
    let p = a.order.payload.now in
    c.light_lamps.ensures
    ∙ ap (λ (w : Words). sweep (λ (q : ℕ) (l : Lamp). lit w l) 0 a.count a.mem.now) c.words_at.ensures
    ∙ sweep-alike (λ (q : ℕ) (l : Lamp). lit (words_at p 0) l) (λ (q : ℕ) (l : Lamp). acted a.d (command_in 0x4F p) l)
    (λ q l. ap (λ (x : Lamp). cond (obeys 0x4F l.state) x l) (changed-pwm a.d p l)) 0 a.count a.mem.now
    ∙ swept_at a.mem.now a.count a.d p c.in-79.is
