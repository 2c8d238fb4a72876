-- The names of the types: each type that is read has its own, those that are not read are the seven others, and other bytes name none.
-- Assumes nothing.
use Prim.Native.Nat.{ℕ, zero, suc, ◌-◌, ◌<◌}
use mathlib.Core.Path.{◌≡◌, refl, sym, ap, ◌∙◌}
use mathlib.Core.Bool.{Bool, true, false, cond, not, false≢true}
use mathlib.Core.List.{List, [], ◌∷◌, ◌++◌, map}
use native.Mathlib.Omega.{arith}
use borrow.Author.Tests.{eqb-true, not-false, ltb-true, ltb-false}
use lib.Dec.{eqb, ltb}
use lib.ListN.{length, get_or, get_or-append, get_or-eq_default}
use Rattle.text.specs.Words.{Word, same, elem, all, rank_from, rank}
use Rattle.text.proofs.Tests.{both, same-eq, of_elem, rank-elem}
use Rattle.head.specs.Field3.{types}
use Rattle.kinds.specs.Kinds.{name_of, types_read, names_not_read, type_ranked, type_named, Named}
use Rattle.kinds.specs.declared.MessageType.{MessageType}
use Rattle.kinds.specs.declared.MessageType.TheVariants.{Fpl, Chg, Cnl, Dla, Dep, Arr, Rqp, Rqs, Spl}
use Rattle.std.specs.Prelude.{Option, Some, None, Ok, Err, is_some, IfSome}
use Rattle.std.specs.Option.{ok_or, option_copied}
use Rattle.std.proofs.Common.{Bor}
use Rattle.std.proofs.lemmas.List.{length-map}
use Rattle.kinds.specs.declared.TypeFault.TheVariants.{NotRead, NoType}

-- the standard types are those that are read, and then those that are not
pub standard : types ≡ map name_of types_read ++ names_not_read
unfolding types types_read names_not_read
standard = refl

-- the type of a rank, as the code has it
pub ranked_read : (ts : List MessageType) (i : ℕ) (d : MessageType) → i < length ts → Ok (get_or ts i d) ≡ get_or (map Ok ts) i (Err NotRead)
ranked_read [] i d h = absurd (omega arith)
ranked_read (x ∷ ts) zero d h = refl
ranked_read (x ∷ ts) (suc i) d h = ranked_read ts i d (omega arith)

pub ranked_found : (ts : List MessageType) (i : ℕ) (o : Option (Bor MessageType)) → is_some o ≡ ltb i (length ts)
    → IfSome o (λ x. x.now ≡ get_or ts i x.now) → ok_or (option_copied o) NotRead ≡ get_or (map Ok ts) i (Err NotRead)
ranked_found ts i None s h = sym (get_or-eq_default (map Ok ts) (Err NotRead) {n = i} (omega (
  arith,
  length-map {B = Named} ts Ok,
  ltb-false i (length ts)
      (sym s),
)))
ranked_found ts i (Some x) s h = ap Ok h ∙ ranked_read ts i x.now (ltb-true i (length ts) (sym s))

-- A TYPE THAT IS READ is named by its own three letters

pub name_read : (t : MessageType) → type_named (name_of t) ≡ Ok t
unfolding type_named type_ranked types_read types
name_read Fpl = refl
name_read Chg = refl
name_read Cnl = refl
name_read Dla = refl
name_read Dep = refl
name_read Arr = refl
name_read Rqp = refl
name_read Rqs = refl
name_read Spl = refl

-- two types with one name are one type
pub name_one : (t u : MessageType) → name_of t ≡ name_of u → t ≡ u
name_one t u e = let h : Ok t ≡ Ok u = sym (name_read t) ∙ ap type_named e ∙ name_read u in cc

-- A TEST OF EVERY TYPE, computed over the list of those that are read, holds for a type

test_at : (P : MessageType → Bool) (t : MessageType) (ts : List MessageType) (i : ℕ) → all P ts ≡ true → get_or (map Ok ts) i (Err NotRead) ≡ Ok t → P t ≡ true
test_at P t [] i h e = let z : ◌≡◌ {A = ℕ} 0 1 = cc in absurd (omega arith)
test_at P t (x ∷ ts) zero h e = let q : x ≡ t = cc in ap P (sym q) ∙ (both (P x) (all P ts) h).0
test_at P t (x ∷ ts) (suc i) h e = test_at P t ts i (both (P x) (all P ts) h).1 e

pub each : (P : MessageType → Bool) → all P types_read ≡ true → (t : MessageType) → P t ≡ true
unfolding type_named type_ranked
each P h t = go (rank (name_of t) types) (name_read t)
  where
    go : (r : ℕ) → get_or (Err NoType ∷ map Ok types_read) r (Err NotRead) ≡ Ok t → P t ≡ true
    go zero e = let z : ◌≡◌ {A = ℕ} 0 1 = cc in absurd (omega arith)
    go (suc i) e = test_at P t types_read i h e

-- OTHER BYTES name no type that is read

-- a word that has a rank stands at that rank
ranked : (k : ℕ) (w : Word) (vs : List Word) → 0 < rank_from (suc k) w vs → (k < rank_from (suc k) w vs) × (w ≡ get_or vs (rank_from (suc k) w vs - suc k) [])
ranked k w [] h = absurd (omega arith)
ranked k w (v ∷ vs) h = go (ranked (suc k) w vs) (same w v) refl h
  where
    go : (0 < rank_from (suc (suc k)) w vs → (suc k < rank_from (suc (suc k)) w vs) × (w ≡ get_or vs (rank_from (suc (suc k)) w vs - suc (suc k)) []))
        → (b : Bool) → same w v ≡ b → 0 < cond b (suc k) (rank_from (suc (suc k)) w vs)
        → (k < cond b (suc k) (rank_from (suc (suc k)) w vs)) × (w ≡ get_or (v ∷ vs) (cond b (suc k) (rank_from (suc (suc k)) w vs) - suc k) [])
    go ih true e h =
        let z : suc k - suc k ≡ 0 = omega arith in
        (omega arith, rw z (same-eq w v e))
    go ih false e h =
        let r = ih h in
        let z : rank_from (suc (suc k)) w vs - suc k ≡ suc (rank_from (suc (suc k)) w vs - suc (suc k)) = omega (arith, r.0) in
        (omega (arith, r.0), rw z r.1)

-- the name at a place where a type stands
name_at : (t : MessageType) (ts : List MessageType) (i : ℕ) → get_or (map Ok ts) i (Err NotRead) ≡ Ok t
    → (i < length (map name_of ts)) × (get_or (map name_of ts) i [] ≡ name_of t)
name_at t [] i e = let z : ◌≡◌ {A = ℕ} 0 1 = cc in absurd (omega arith)
name_at t (x ∷ ts) zero e = let q : x ≡ t = cc in (omega arith, ap name_of q)
name_at t (x ∷ ts) (suc i) e = let r = name_at t ts i e in (omega (arith, r.0), r.1)

pub read_name : (w : Word) (t : MessageType) → type_named w ≡ Ok t → w ≡ name_of t
unfolding type_named type_ranked
read_name w t e = go (rank w types) refl e
  where
    go : (r : ℕ) → rank w types ≡ r → get_or (Err NoType ∷ map Ok types_read) r (Err NotRead) ≡ Ok t → w ≡ name_of t
    go zero q e = let z : ◌≡◌ {A = ℕ} 0 1 = cc in absurd (omega arith)
    go (suc i) q e =
        let n = name_at t types_read i e in
        let z : suc i - 1 ≡ i = omega arith in
        let p : w ≡ get_or types i [] = rw (q, z) at (ranked 0 w types (omega arith)).1 in
        p ∙ ap (λ (l : List Word). get_or l i []) standard ∙ get_or-append (map name_of types_read) names_not_read [] i n.0 ∙ n.1

-- NO TYPE: the bytes are none of the standard types

pub none_names : (w : Word) → elem w types ≡ false → type_named w ≡ Err NoType
unfolding type_named type_ranked
none_names w e = ap type_ranked (eqb-true (rank w types) 0 (not-false (eqb (rank w types) 0) (rank-elem 1 w types (omega arith) ∙ e)))

no_type_at : {A : Type 0} (ts : List MessageType) (i : ℕ) → get_or (map Ok ts) i (Err NotRead) ≡ Err NoType → A
no_type_at [] i e = let z : ◌≡◌ {A = ℕ} 0 1 = cc in absurd (omega arith)
no_type_at (x ∷ ts) zero e = let z : ◌≡◌ {A = ℕ} 0 1 = cc in absurd (omega arith)
no_type_at (x ∷ ts) (suc i) e = no_type_at ts i e

pub names_none : (w : Word) → type_named w ≡ Err NoType → elem w types ≡ false
unfolding type_named type_ranked
names_none w e = go (rank w types) refl e
  where
    go : (r : ℕ) → rank w types ≡ r → get_or (Err NoType ∷ map Ok types_read) r (Err NotRead) ≡ Err NoType → elem w types ≡ false
    go zero q e = sym (rank-elem 1 w types (omega arith)) ∙ ap (λ (r : ℕ). not (eqb r 0)) q
    go (suc i) q e = no_type_at types_read i e

-- NOT READ: the bytes are one of the seven others

abbrev is_read : Named → Bool
is_read (Ok t) = true
is_read (Err NotRead) = false
is_read (Err NoType) = false

abbrev is_not_read : Named → Bool
is_not_read (Ok t) = false
is_not_read (Err NotRead) = true
is_not_read (Err NoType) = false

is_not_read_lem : (n : Named) → is_not_read n ≡ true → n ≡ Err NotRead
is_not_read_lem (Ok t) e = absurd (false≢true e)
is_not_read_lem (Err NotRead) e = refl
is_not_read_lem (Err NoType) e = absurd (false≢true e)

pub name_not_read : (w : Word) → elem w names_not_read ≡ true → type_named w ≡ Err NotRead
unfolding type_named type_ranked types_read types names_not_read
name_not_read w e = is_not_read_lem (type_named w) (of_elem (λ v. is_not_read (type_named v)) names_not_read refl w e)

name_of_read : (w : Word) → elem w (map name_of types_read) ≡ true → is_read (type_named w) ≡ true
unfolding type_named type_ranked types_read types
name_of_read w e = of_elem (λ v. is_read (type_named v)) (map name_of types_read) refl w e

-- one of two lists, but not of the first
second : (w : Word) (us vs : List Word) → elem w us ≡ false → elem w (us ++ vs) ≡ elem w vs
second w [] vs e = refl
second w (u ∷ us) vs e = go (second w us vs) (same w u) e
  where
    go : (elem w us ≡ false → elem w (us ++ vs) ≡ elem w vs) → (b : Bool) → cond b true (elem w us) ≡ false
        → cond b true (elem w (us ++ vs)) ≡ elem w vs
    go ih true e = absurd (false≢true (sym e))
    go ih false e = ih e

pub not_read_name : (w : Word) → type_named w ≡ Err NotRead → elem w names_not_read ≡ true
not_read_name w e =
    sym (second w (map name_of types_read) names_not_read (not_first (elem w (map name_of types_read)) refl))
    ∙ ap (elem w) (sym standard)
    ∙ a_type (elem w types) refl
  where
    not_first : (b : Bool) → elem w (map name_of types_read) ≡ b → b ≡ false
    not_first true q = absurd (false≢true (ap is_read (sym e) ∙ name_of_read w q))
    not_first false q = refl

    a_type : (b : Bool) → elem w types ≡ b → b ≡ true
    a_type true q = refl
    a_type false q = absurd (false≢true (ap is_not_read (sym (none_names w q)) ∙ ap is_not_read e))
