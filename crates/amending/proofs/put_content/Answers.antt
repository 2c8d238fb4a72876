-- `amending::put_content` meets its contract. Assumes nothing.
use Prim.Native.Nat.{ℕ, ◌≤◌}
use mathlib.Core.Path.{◌≡◌, refl, sym, ap}
use mathlib.Core.Logic.{◌⊎◌, inl, inr}
use mathlib.Core.List.{List}
use lib.ListN.{length}
use Rattle.kinds.specs.declared.Role.{Role}
use Rattle.kinds.specs.declared.Role.TheVariants.{Files, Cancels, Departs, Arrives, Neither}
use Rattle.canonical.proofs.Turns.{put_same, room_same}
use Rattle.dates.specs.Dates.{Puts}
use Rattle.amending.specs.Amended.{content_in}
use Rattle.amending.proofs.put_content.Goals.{Start}
use Rattle.amending.proofs.put_content.Goals as goal

as-role : (c : Start) {role : Role} (e : c.args.role ≡ role) → content_in c.args.role c.args.own.now c.args.said.now c.args.k
    ≡ content_in role c.args.own.now c.args.said.now c.args.k
as-role c e = ap (λ (r : Role). content_in r c.args.own.now c.args.said.now c.args.k) e

asked : (c : Start) {role : Role} (e : c.args.role ≡ role) → length (content_in role c.args.own.now c.args.said.now c.args.k) ≤ length c.args.out.now
asked c e = room_same c.args.out.now (as-role c e) c.requires.1

given : (c : Start) {role : Role} (e : c.args.role ≡ role) {n : ℕ} {after : List ℕ} → Puts (content_in role c.args.own.now c.args.said.now c.args.k) n
    c.args.out.now after
    → Puts (content_in c.args.role c.args.own.now c.args.said.now c.args.k) n c.args.out.now after
given c e p = put_same c.args.out.now (sym (as-role c e)) p

pub put_changed-requires : goal.put_changed-requires
put_changed-requires c =
    (c.requires.0, asked (goal.at.put_changed-requires c).Start c.in-Changes.is)

pub put_delayed-requires : goal.put_delayed-requires
put_delayed-requires c =
    asked (goal.at.put_delayed-requires c).Start c.in-Delays.is

-- the roles that leave the field as it is
own_kept : (r : Role) (own said : List ℕ) (k : ℕ) → (r ≡ Cancels) ⊎ ((r ≡ Departs) ⊎ ((r ≡ Arrives) ⊎ ((r ≡ Files) ⊎ (r ≡ Neither)))) → own
    ≡ content_in r own said k
own_kept r own said k (inl e) = rw e refl
own_kept r own said k (inr (inl e)) = rw e refl
own_kept r own said k (inr (inr (inl e))) = rw e refl
own_kept r own said k (inr (inr (inr (inl e)))) = rw e refl
own_kept r own said k (inr (inr (inr (inr e)))) = rw e refl

pub put-requires : goal.put-requires
put-requires c =
    let a = c.args in
    room_same a.out.now (sym (own_kept a.role a.own.now a.said.now a.k c.in-Cancels.is)) c.requires.1

pub returns-in-Changes : goal.returns-in-Changes
returns-in-Changes c =
    given (goal.at.returns-in-Changes c).Start c.in-Changes.is c.put_changed.ensures

pub returns-in-Delays : goal.returns-in-Delays
returns-in-Delays c =
    given (goal.at.returns-in-Delays c).Start c.in-Delays.is c.put_delayed.ensures

pub returns-in-Cancels : goal.returns-in-Cancels
returns-in-Cancels c =
    let a = c.args in
    put_same a.out.now (own_kept a.role a.own.now a.said.now a.k c.in-Cancels.is) c.put.ensures
