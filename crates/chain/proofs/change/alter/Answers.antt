-- `chain::change::alter` meets its contract: in each arm the table of changes computes at the plain
-- number.
-- Assumes nothing.
use mathlib.Core.Path.{◌∙◌, refl, ap, ap₂, sym}
use native.Mathlib.Omega.{arith}
use Rattle.table.specs.Table.{row_of, acknowledged, plain_number}
use Rattle.command.specs.Fields.{layout_of}
use Rattle.rules.specs.declared.State.TheVariants.{Sleep, Active, DeepSleep}
use Rattle.rules.specs.Lamp.{changed_plain, reset, with_flags, with_state, with_groups, with_thresholds, with_setup, with_pwm}
use Rattle.chain.specs.Places.{lamp_at, with_lamp}
use Rattle.chain.proofs.Slots.{with-self}
use Rattle.chain.proofs.Changes.{either-size, changed-key, changed-either, changed-cleared, changed-pwm, changed-not}
use borrow.Author.Rules.{rules}
use Rattle.chain.proofs.change.alter.Goals as goal

pub word_at-groups-requires : goal.word_at-groups-requires
unfolding changed_plain layout_of row_of plain_number acknowledged
word_at-groups-requires c = omega (arith, either-size 2 c.in-13.is refl refl c.args.order.fits)

pub thresholds_at-thresholds-requires : goal.thresholds_at-thresholds-requires
unfolding changed_plain layout_of row_of plain_number acknowledged
thresholds_at-thresholds-requires c = omega (arith, either-size 3 c.in-75.is refl refl c.args.order.fits)

pub bounds-order-0 : goal.bounds-order-0
unfolding changed_plain layout_of row_of plain_number acknowledged
bounds-order-0 c = omega (arith, either-size 1 c.in-77.is refl refl c.args.order.fits)

pub words_at-pwm-requires : goal.words_at-pwm-requires
unfolding changed_plain layout_of row_of plain_number acknowledged
words_at-pwm-requires c = omega (arith, either-size 6 c.in-79.is refl refl c.args.order.fits)

pub returns-in-0 : goal.returns-in-0
unfolding changed_plain layout_of row_of plain_number acknowledged
returns-in-0 c = let a = c.args in
    c.store_lamp.ensures ∙ ap (with_lamp a.mem.now a.p.0) (c.blank_lamp.ensures ∙ ap (reset a.d) c.load_lamp.ensures ∙ changed-key a.d a.order.payload.now _ c.in-0.is)

pub returns-in-1 : goal.returns-in-1
unfolding changed_plain layout_of row_of plain_number acknowledged
returns-in-1 c = let a = c.args in
    c.store_lamp-in-1.ensures ∙ ap (with_lamp a.mem.now a.p.0) (ap₂ with_flags c.no_flags-flags.ensures c.load_lamp-l.ensures ∙ changed-cleared a.d a.order.payload.now _ c.in-1.is)

pub returns-in-4 : goal.returns-in-4
unfolding changed_plain layout_of row_of plain_number acknowledged
returns-in-4 c = let a = c.args in
    c.store_lamp-in-4.ensures ∙ ap (with_lamp a.mem.now a.p.0) (c.with_state.ensures ∙ ap (with_state Sleep) c.load_lamp-in-4.ensures ∙ changed-either a.d a.order.payload.now _ c.in-4.is refl)

pub returns-in-5 : goal.returns-in-5
unfolding changed_plain layout_of row_of plain_number acknowledged
returns-in-5 c = let a = c.args in
    c.store_lamp-in-5.ensures ∙ ap (with_lamp a.mem.now a.p.0) (c.with_state-in-5.ensures ∙ ap (with_state Active) c.load_lamp-in-5.ensures ∙ changed-either a.d a.order.payload.now _ c.in-5.is refl)

pub returns-in-6 : goal.returns-in-6
unfolding changed_plain layout_of row_of plain_number acknowledged
returns-in-6 c = let a = c.args in
    c.store_lamp-in-6.ensures ∙ ap (with_lamp a.mem.now a.p.0) (c.with_state-in-6.ensures ∙ ap (with_state DeepSleep) c.load_lamp-in-6.ensures ∙ changed-either a.d a.order.payload.now _ c.in-6.is refl)

pub returns-in-13 : goal.returns-in-13
unfolding changed_plain layout_of row_of plain_number acknowledged
returns-in-13 c = let a = c.args in
    c.store_lamp-in-13.ensures ∙ ap (with_lamp a.mem.now a.p.0) (ap₂ with_groups c.word_at-groups.ensures c.load_lamp-l-in-13.ensures ∙ changed-either a.d a.order.payload.now _ c.in-13.is refl)

pub returns-in-75 : goal.returns-in-75
unfolding changed_plain layout_of row_of plain_number acknowledged
returns-in-75 c = let a = c.args in
    c.store_lamp-in-75.ensures ∙ ap (with_lamp a.mem.now a.p.0) (ap₂ with_thresholds c.thresholds_at-thresholds.ensures c.load_lamp-l-in-75.ensures ∙ changed-either a.d a.order.payload.now _ c.in-75.is refl)

pub returns-in-77 : goal.returns-in-77
unfolding changed_plain layout_of row_of plain_number acknowledged
returns-in-77 c = let a = c.args in
    c.store_lamp-in-77.ensures ∙ ap (with_lamp a.mem.now a.p.0) (ap (with_setup _) c.load_lamp-l-in-77.ensures ∙ changed-either a.d a.order.payload.now _ c.in-77.is refl)

pub returns-in-79 : goal.returns-in-79
unfolding changed_plain layout_of row_of plain_number acknowledged
returns-in-79 c = let a = c.args in
    c.store_lamp-in-79.ensures ∙ ap (with_lamp a.mem.now a.p.0) (ap₂ with_pwm c.words_at-pwm.ensures c.load_lamp-l-in-79.ensures ∙ changed-pwm a.d a.order.payload.now (lamp_at a.mem.now a.p.0) ∙ changed-either a.d a.order.payload.now _ c.in-79.is refl)

pub returns-in_default : goal.returns-in_default
unfolding changed_plain layout_of row_of plain_number acknowledged
returns-in_default c = let a = c.args in
    sym (with-self a.mem.now a.p.0 (search rules) c.requires)
    ∙ ap (with_lamp a.mem.now a.p.0) (changed-not a.d a.order.payload.now _ {n = a.order.number} (search rules))
