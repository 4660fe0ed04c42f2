-- What dissects builds back to the same bytes; what is built dissects back to the same command, cast and fields; what is
-- accepted for one lamp has an address 001 to 3EF.
-- Assumes nothing.
use mathlib.Core.Path.{◌≡◌, ◌∙◌, refl, sym, ap, subst}
use mathlib.Core.Bool.{Bool, true, false}
use mathlib.Core.List.{List}
use Prim.Native.Nat.{ℕ, ◌+◌, ◌≤◌, ◌<◌}
use native.Mathlib.Omega.{arith}
use lib.Dec.{leb, ltb}
use lib.ListN.{length, get_or, drop, length-drop, get_or-eq_default}
use lib.Seq.{get_or-take, get_or-drop, length-take-le}
use borrow.Author.Tests.{ltb-true, ltb-false, leb-true}
use Rattle.telegram.specs.Numbers.{Outcome, refused_for, done}
use Rattle.telegram.specs.Telegram.{Bytes, reading, building, listed, payload_in}
use Rattle.telegram.specs.declared.Telegram.{Telegram}
use Rattle.telegram.proofs.Reading.{accepted-count}
use Rattle.telegram.proofs.Building.{Sendable, build-done, built, listed_le}
use Rattle.telegram.proofs.RoundTrip.{read-builds, built-reads}
use Rattle.table.specs.Casts.{address_of, cast_in_range}
use Rattle.table.specs.Table.{row_of, cast_listed, lists_cast, payload_fits, fits_row}
use Rattle.table.specs.declared.Row.{Row}
use Rattle.table.specs.declared.Cast.{Cast}
use Rattle.table.specs.declared.Cast.TheVariants.{One}
use Rattle.command.specs.Fields.{layout_of, fields_by}
use Rattle.command.specs.Commands.{Message, numbered, message_of, Sent, payload_of, dissecting, building_command}
use Rattle.command.specs.declared.Command.{Command}
use Rattle.telegram.specs.declared.Address.{Address}
use Rattle.table.proofs.Both.{and_left, and_right}
use Rattle.table.proofs.Table.{row-right}
use Rattle.table.proofs.Destinations.{reached, cast-back, address-le}
use Rattle.command.proofs.Layouts.{Wide, command-wide, payload-back, duties-back}
use Rattle.command.proofs.Naming.{Named, named, name_done, dissected, dissect-named}
use Rattle.command.proofs.Commanding.{Fit, command-sent, commanded}
use Rattle.command.proofs.Sound.{sound}

-- The payload of bytes is bytes, and as long as the telegram says.
part_bytes : (b : Bool) (s : List ℕ) (k i : ℕ) → ltb i k ≡ b → Bytes s → length (payload_in s k) ≡ k → get_or (payload_in s k) i 0 < 256
part_bytes true s k i e h l = rw (get_or-take k (drop 3 s) i 0 (ltb-true i k e), get_or-drop 3 s i 0) (h (3 + i))
part_bytes false s k i e h l =
    rw (get_or-eq_default (payload_in s k) 0 {n = i} (let u : k ≤ i = ltb-false i k e in omega arith)) (omega arith)

pub payload-bytes : (s : List ℕ) (k : ℕ) → Bytes s → length (payload_in s k) ≡ k → Bytes (payload_in s k)
payload-bytes s k y l i = part_bytes (ltb i k) s k i refl y l

pub payload-length : (s : List ℕ) (t : Telegram) → reading s ≡ done t → length (payload_in s t.size) ≡ t.size
payload-length s t e = length-take-le t.size (drop 3 s) (omega (arith, length-drop 3 s, accepted-count s t e))

-- What dissects builds back to the same bytes, in every room that is long enough for them.
pub dissected-builds : (s : List ℕ) (m : Sent) → Bytes s → dissecting s ≡ done m → (room : ℕ) → length s ≤ room
    → building_command m.message m.cast room ≡ done s
dissected-builds s m y e room h =
    let d = dissected s e in
    let t : Telegram = d.0 in
    let r : reading s ≡ done t = d.1.0 in
    let g : Named s t m = named s t m d.1.1 in
    let n = t.command in
    let p : List ℕ = payload_in s t.size in
    let x : Message = numbered n (fields_by (layout_of n) p) in
    let lp : length p ≡ t.size = payload-length s t r in
    let b : building t.address.0 n p room ≡ done s = read-builds s t y r room h in
    let v = (built t.address.0 n p room b).0 in
    let fits : payload_fits g.row (length p) ≡ true = subst (λ (k : ℕ). payload_fits g.row k ≡ true) (sym lp) g.fits in
    let w : Wide (layout_of n) p =
    command-wide n v.command p (listed_le (length p) v.size) (row-right n (length p) g.row g.known fits) in
    let ep : p ≡ payload_of x = sym (payload-back (layout_of n) p (payload-bytes s t.size y lp) w) in
    let q = reached t.address.0 m.cast g.to in
    let f : Fit x m.cast =
    record { range = q.range; duties = duties-back (layout_of n) p; lists = simp g.known g.listed } in
    let vx : Sendable (address_of m.cast) n (payload_of x) =
    record { address = address-le m.cast q.range; command = v.command; size = subst (λ (l : List ℕ). listed (length l) ≡ true) ep v.size } in
    ap (λ (z : Message). building_command z m.cast room) g.message
    ∙ sym (command-sent x m.cast room f vx (sym q.address) refl ep) ∙ b

-- A cast that the table lists is listed in a row.
row-of : (o : Outcome Row) (cast : Cast) → lists_cast o cast ≡ true → (r : Row) × ((o ≡ done r) × (cast_listed r.casts cast ≡ true))
row-of (refused_for d) cast h = absurd (let z : ◌≡◌ {A = ℕ} 0 1 = cc in omega arith)
row-of (done r) cast h = (r, (refl, h))

-- What is built dissects back to the same command, cast and fields.
pub built-dissects : (c : Command) (cast : Cast) (room : ℕ) (s : List ℕ) → building_command (message_of c) cast room ≡ done s
    → dissecting s ≡ done (record { message = message_of c; cast = cast })
built-dissects c cast room s e =
    let m : Message = message_of c in
    let n = m.number in
    let p : List ℕ = payload_of m in
    let q = commanded m cast room e in
    let f : Fit m cast = q.0 in
    let z = sound c in
    let v : Sendable (address_of cast) n p = record { address = address-le cast f.range; command = z.number; size = z.length-listed } in
    let b : building (address_of cast) n p (4 + length p) ≡ done s = build-done (address_of cast) n p (4 + length p) v (omega arith) ∙ ap done q.1 in
    let r = built-reads (address_of cast) n p (4 + length p) s b in
    let w = row-of (row_of n) cast f.lists in
    let t : Telegram = record { address = record { 0 = address_of cast }; command = n; size = length p } in
    let fits : payload_fits w.0 (length p) ≡ true = sym (ap (λ (o : Outcome Row). fits_row o (length p)) w.1.0) ∙ z.size in
    sym (dissect-named s r.0)
    ∙ sym
    (name_done s t w.0 w.1.0 cast (cast-back cast f.range) w.1.1 fits m
    (ap (numbered n) (sym (ap (fields_by (layout_of n)) r.1 ∙ z.back f.duties))))

-- What is accepted for one lamp has an address 001 to 3EF.
pub one-lamp : (s : List ℕ) (m : Sent) (a : Address) → dissecting s ≡ done m → m.cast ≡ One a → (1 ≤ a.0) × (a.0 ≤ 0x3EF)
one-lamp s m a e k =
    let d = dissected s e in
    let g = named s d.0 m d.1.1 in
    let q : cast_in_range (One a) ≡ true = subst (λ (x : Cast). cast_in_range x ≡ true) k (reached d.0.address.0 m.cast g.to).range in
    (leb-true 1 a.0 (and_left (leb 1 a.0) _ q), leb-true a.0 0x3EF (and_right (leb 1 a.0) _ q))
