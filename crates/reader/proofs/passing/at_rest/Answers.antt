-- `reader::passing::at_rest` meets its contract: where the last test is made, those before it held. Assumes nothing.
use Rattle.std.proofs.Common.{sym, ◌∙◌, arith, eqb-true, leb-true}
use mathlib.Core.Bool.{true≢false}
use Rattle.reader.proofs.passing.at_rest.Goals as goal
use Rattle.reader.proofs.passing.at_rest.Goals.{then-reader-ge21, else-reader-ge21, then-reader-eq0, else-reader-eq0}

pub returns-then-reader-eq0-2 : goal.returns-then-reader-eq0-2
returns-then-reader-eq0-2 c e =
    elim c.if-reader-eq0.branch [
      | then-reader-eq0 w ↦
          elim c.if-reader-ge21.branch [
            | then-reader-ge21 v ↦
                record {
                  long = v.if-reader-ge21.true;
                  phase = eqb-true _ _ (sym v.value-is ∙ w.if-reader-eq0.true);
                  none = eqb-true _ _ (sym w.value-is ∙ c.if-reader-eq0-2.true);
                  clear = sym c.all_zero.ensures ∙ e;
                }
            | else-reader-ge21 v ↦ absurd (omega (arith, v.if-reader-ge21.false, leb-true _ _ (sym v.value-is ∙ w.if-reader-eq0.true)))
          ]
      | else-reader-eq0 w ↦ absurd (true≢false (sym c.if-reader-eq0-2.true ∙ w.value-is ∙ w.if-reader-eq0.false))
    ]
