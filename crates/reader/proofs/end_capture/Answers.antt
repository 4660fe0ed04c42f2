-- `reader::end_capture` meets its contract: memory holds no state, or the end of the reading decides. Assumes nothing.
use Rattle.std.proofs.Common.{◌≡◌, Result, Ok, sym, refl, ap, ◌∙◌, rules}
use Rattle.telegram.specs.Numbers.{Outcome, done}
use Rattle.telegram.specs.declared.Refusal.{Refusal}
use Rattle.capture.specs.declared.Reply.{Reply as Told}
use Rattle.capture.specs.declared.Reply.TheVariants.{Telegram, More, Ended}
use Rattle.capture.specs.State.{state_of}
use Rattle.capture.specs.Calls.{Reply, telegram, more, over, answer_as, closing_as}
use Rattle.reader.specs.Layout.{state_in, held_as}
use Rattle.reader.specs.Interface.{end_answering, reader_end}
use Rattle.reader.proofs.States.{state-long}
use Rattle.reader.proofs.Keeping.{Keeps, end-keeps}
use Rattle.reader.proofs.Exits.{end_none, end-told, ended}
use Rattle.reader.proofs.end_capture.Goals as goal
use Rattle.reader.proofs.end_capture.Goals.{After-end_run-c}

-- what was read out of memory
holds : (c : After-end_run-c) → state_in c.args.reader.now ≡ done (state_of c.in-Some.carried)
holds c = sym c.read_state.ensures ∙ ap held_as c.in-Some.is

-- what is left can be kept
keeps : (c : After-end_run-c) → let g = closing_as c.end_run-c.result in
    Keeps c.args.reader.now g.answer g.state
keeps c = end-keeps (state_of c.in-Some.carried) c.args.reader.now (holds c) (λ i. search rules) _ c.end_run-c.ensures

-- the end by what the reading answered
by : (c : After-end_run-c) (k : Result Told Refusal) → c.end_run-c.result.answer ≡ k
    → let mem = c.args.reader.now in
    end_answering (answer_as k) (state_of c.end_run-c.result.reading) mem ≡ end_answering (answer_as c.end_run-c.result.answer) (state_of c.end_run-c.result.reading) mem
by c k e = ap (λ (x : Result Told Refusal). end_answering (answer_as x) (state_of c.end_run-c.result.reading) c.args.reader.now) (sym e)

told : (c : After-end_run-c) (k : Result Told Refusal) → c.end_run-c.result.answer ≡ k
    → let mem = c.args.reader.now in
    end_answering (answer_as k) (state_of c.end_run-c.result.reading) mem ≡ reader_end mem
told c k e = by c k e ∙ end-told _ _ (closing_as c.end_run-c.result) (holds c) c.end_run-c.ensures

pub returns-in_default : goal.returns-in_default
returns-in_default c =
    let p = ended (end_none _ (sym c.read_state.ensures ∙ ap held_as c.in_default.is)) refl refl in
    record { value = p.0; reader_after = p.1 }

-- whatever a reply is, it is done
reply : (x : Told) → (r : Reply) × (answer_as (Ok x) ≡ done r)
reply (Telegram t) = (telegram t, refl)
reply More = (more, refl)
reply Ended = (over, refl)

pub keep-requires : goal.keep-requires
keep-requires c = state-long _ _ (holds (goal.at.keep-requires c).After-end_run-c)

pub refuse_kept-requires : goal.refuse_kept-requires
refuse_kept-requires c = state-long _ _ (holds (goal.at.refuse_kept-requires c).After-end_run-c)

pub invariant_of-left : goal.invariant_of-left
invariant_of-left c = record { fits = (keeps (goal.at.invariant_of-left c).After-end_run-c).fits }

pub invariant_of-left-in-Err : goal.invariant_of-left-in-Err
invariant_of-left-in-Err c = record { fits = (keeps (goal.at.invariant_of-left-in-Err c).After-end_run-c).fits }

pub returns-in-Ok : goal.returns-in-Ok
returns-in-Ok c =
    let q = (goal.at.returns-in-Ok c).After-end_run-c in
    let e = ap (λ (o : Outcome Reply). end_answering o (state_of c.end_run-c.result.reading) c.args.reader.now) (reply c.in-Ok.field-0).1 in
    let p = ended (sym e ∙ told q _ c.in-Ok.is) refl c.keep.ensures in
    record { value = p.0; reader_after = p.1 }

pub returns-in-Err : goal.returns-in-Err
returns-in-Err c =
    let w = c.refuse_kept.ensures in
    let p = ended (told (goal.at.returns-in-Err c).After-end_run-c _ c.in-Err.is) w.value w.reader_after in
    record { value = p.0; reader_after = p.1 }
