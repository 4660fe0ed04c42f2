-- `chain::init::initialise` meets its contract: by the cast.
-- Assumes nothing.
use mathlib.Core.Path.{◌≡◌, refl, subst}
use native.Mathlib.Omega.{arith}
use Rattle.telegram.specs.Numbers.{done}
use Rattle.table.specs.declared.Cast.{Cast}
use Rattle.table.specs.declared.Cast.TheVariants.{One}
use Rattle.rules.specs.Chain.{permitting}
use Rattle.rules.proofs.Deliveries.{permitted-fits}
use Rattle.chain.specs.Record.{decode, count_of}
use Rattle.chain.specs.Helpers.{init_of}
use Rattle.chain.proofs.Places.{length-lamps_in}
use Rattle.chain.proofs.Inits.{permit-group}
use Rattle.chain.proofs.init.initialise.Goals as goal
use Rattle.chain.proofs.init.initialise.Goals.{Start}

-- it is permitted, as the cast that it has
permitted : {cast : Cast} (c : Start) → let a = c.args in
    a.order.cast ≡ cast → permitting (decode a.mem.now).lamps (init_of a.order.number cast) ≡ done (init_of a.order.number cast)
permitted c e = let a = c.args in
    subst (λ (x : Cast). permitting (decode a.mem.now).lamps (init_of a.order.number x) ≡ done (init_of a.order.number x)) e c.requires.2

pub init_from-requires : goal.init_from-requires
unfolding decode
init_from-requires c = let a = c.args in
    let first = c.in-One.first in
    let f = permitted-fits (decode a.mem.now).lamps (init_of a.order.number (One first)) first (permitted (goal.at.init_from-requires c).Start c.in-One.is) c.requires.1 refl in
    (c.requires.0, c.requires.1, omega (arith, f, length-lamps_in (count_of a.mem.now) a.mem.now))

pub returns-in-Group : goal.returns-in-Group
unfolding decode
returns-in-Group c = absurd (permit-group _ _ _ c.requires.1 (permitted (goal.at.returns-in-Group c).Start c.in-Group.is))
