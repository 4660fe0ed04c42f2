-- What a refusal of a call on a chain carries, and that delivery passes the reader's refusal on whole.
-- Assumes nothing.
use mathlib.Core.Path.{sym}
use borrow.Author.Tests.{le-ltb}
use Rattle.telegram.proofs.Carrying.{answerable-carries}
use Rattle.command.proofs.Naming.{dissect-refused}
use Rattle.rules.specs.Chain.{responding, delivering, deliver}
use Rattle.chain.specs.Memory.{delivered}
use Rattle.chain.specs.Carried.{DeliveryPassesOn, ChainCarries}
use Rattle.chain.proofs.Results.{delivered-answerable, made-answerable, sensed-answerable, read-answerable}

pub chain-carries : ChainCarries
chain-carries =
    record {
      deliver = λ mem s room. answerable-carries _ (delivered-answerable mem s room);
      make = λ mem n d. answerable-carries _ (made-answerable mem n d);
      sense = λ mem p t faults. answerable-carries _ (sensed-answerable mem p t faults);
      lamp = λ mem p. answerable-carries _ (read-answerable mem p);
    }

pub delivery-passes-on : DeliveryPassesOn
unfolding DeliveryPassesOn delivered deliver delivering responding
delivery-passes-on mem s room c e h v r = simp (le-ltb room 12 h, v, sym (dissect-refused s r))
