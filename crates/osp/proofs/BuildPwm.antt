-- SETPWM from its fields: the tests that it passes, and its command.
-- Assumes nothing.
use mathlib.Core.Path.{◌≡◌}
use Prim.Native.Nat.{ℕ, ◌/◌, ◌%◌, ◌≤◌}
use borrow.Author.Tests.{le-ltb}
use Rattle.command.specs.Fields.{mode_of}
use Rattle.command.specs.Commands.{message_of}
use Rattle.command.specs.declared.Pwm.{Pwm}
use Rattle.command.specs.declared.Command.TheVariants.{SetPwm}
use Rattle.osp.specs.Interface.{building_directed, pwm_message, osp_build_pwm}

-- Past the tests what is left is the cast and the room.
pub pwm-directed : (k v m r g b room : ℕ) → m ≤ 7 → r ≤ 32767 → g ≤ 32767 → b ≤ 32767
    → osp_build_pwm k v m r g b room ≡ building_directed (pwm_message m r g b) k v room
unfolding osp_build_pwm
pwm-directed k v m r g b room h₁ h₂ h₃ h₄ = simp (le-ltb _ _ h₁, le-ltb _ _ h₂, le-ltb _ _ h₃, le-ltb _ _ h₄)

-- The command that the code makes is the message of the numbers.
pub pwm-message : (m r g b : ℕ) (x y z : Pwm) → (mode_of x ≡ m / 4 % 2) × (x.duty ≡ r) → (mode_of y ≡ m / 2 % 2) × (y.duty ≡ g)
    → (mode_of z ≡ m % 2) × (z.duty ≡ b) → message_of (SetPwm x y z) ≡ pwm_message m r g b
pwm-message m r g b x y z hx hy hz = rw (hx.0, hx.1, hy.0, hy.1, hz.0, hz.1)
