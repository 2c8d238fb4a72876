-- `outer::check_parens` meets its contract. Assumes nothing.
use Rattle.std.specs.Prelude.{Err, not}
use Rattle.std.proofs.Common.{rules}
use mathlib.Core.Path.{◌≡◌, refl, sym, ap, subst, ◌∙◌}
use native.Mathlib.Omega.{arith}
use Prim.Native.Nat.{ℕ, ◌+◌, ◌-◌}
use mathlib.Core.List.{List}
use Rattle.std.proofs.Math.Seq.{take-length}
use Rattle.std.proofs.lemmas.List.{length-drop}
use lib.ListN.{length, take, drop}
use borrow.Author.Tests.{tests}
use Rattle.std.proofs.lemmas.Iterator.{YieldsList-from_slice}
use Rattle.std.proofs.lemmas.Iterator.Search.{position_from_yields_List}
use Rattle.alphabet.proofs.First.{count_found}
use Rattle.outer.specs.Refusal.{refusal}
use Rattle.outer.specs.Outer.{no_paren, parens, parens_from}
use Rattle.outer.proofs.Laws.{to_paren, Closes, parens_none, parens_other, parens_first, parens_closed, parens_open}
use Rattle.outer.proofs.check_parens.Goals.{Joined-else-n-rest}
use Rattle.outer.proofs.check_parens.Goals as goal
use Rattle.outer.proofs.check_parens.Goals.{then-msg-eq0-via-then-msg-eq0, then-msg-eq0-via-else-msg-eq0+then-msg-ne40}
use Rattle.outer.proofs.check_parens.Goals.{else-n-rest-via-then-n-rest+else-rest-n-eq41, else-n-rest-via-else-n-rest}

rest_is : (m : List ℕ) → take (length m - 1) (drop 1 m) ≡ drop 1 m
rest_is m = rw (← length-drop 1 m) (take-length (drop 1 m))

pub returns-then-msg-eq0 : goal.returns-then-msg-eq0
returns-then-msg-eq0 c =
    ap Err c.of.ensures
    ∙ elim c.then-msg-eq0.branch [
      | then-msg-eq0-via-then-msg-eq0 w ↦ sym (parens_none _ w.if-msg-eq0.true)
      | then-msg-eq0-via-else-msg-eq0+then-msg-ne40 w ↦ sym (parens_other _ w.if-msg-eq0.false w.if-msg-ne40.true)
    ]

pub returns-then-rest-n-eq41 : goal.returns-then-rest-n-eq41
returns-then-rest-n-eq41 c =
    let m = c.args.msg.now in
    let s = take (length m - 1) (drop 1 m) in
    let w : s ≡ drop 1 m = rest_is m in
    let found = position_from_yields_List (λ b. not (no_paren b)) _ _ c.position.result c.position.ensures.ran
    (YieldsList-from_slice s (search rules)) (λ x b q k. search (rules, tests)) in
    let n = count_found no_paren to_paren refl (λ b t. refl) s _ found _ c.unwrap_or-n.ensures in
    sym (parens_closed s 1 (subst (Closes s) n.0 (c.if-n-rest.true, c.if-rest-n-eq41.true))) ∙ ap (parens_from 1) w ∙ parens_first m
    c.if-msg-eq0.false c.if-msg-ne40.false

-- where the first parenthesis is no `)` that stands last
left : (c : Joined-else-n-rest) → Err (refusal 2 0 (c.unwrap_or-n.result + 1)) ≡ parens c.args.msg.now
left c =
    let m = c.args.msg.now in
    let s = take (length m - 1) (drop 1 m) in
    let w : s ≡ drop 1 m = rest_is m in
    let found = position_from_yields_List (λ b. not (no_paren b)) _ _ c.position.result c.position.ensures.ran
    (YieldsList-from_slice s (search rules)) (λ x b q k. search (rules, tests)) in
    let u = c.unwrap_or-n.result in
    let n = count_found no_paren to_paren refl (λ b t. refl) s _ found u c.unwrap_or-n.ensures in
    let open_ : Closes s u → ⊥ =
    elim c.else-n-rest.branch [
      | else-n-rest-via-then-n-rest+else-rest-n-eq41 w ↦ λ k. w.if-rest-n-eq41.false k.1
      | else-n-rest-via-else-n-rest w ↦ λ k. w.if-n-rest.false k.0
    ]
    in
    let p : 1 + to_paren s ≡ u + 1 = omega (arith, n.0) in
    sym (parens_open s 1 (subst (λ (k : ℕ). Closes s k → ⊥) n.0 open_) ∙ ap (λ (k : ℕ). Err (refusal 2 0 k)) p) ∙ ap (parens_from 1) w
    ∙ parens_first m c.if-msg-eq0.false c.if-msg-ne40.false

pub returns-then-rest-n-eq41-2 : goal.returns-then-rest-n-eq41-2
returns-then-rest-n-eq41-2 c =
    ap Err c.at.ensures ∙ left (goal.at.returns-then-rest-n-eq41-2 c).Joined-else-n-rest

pub returns : goal.returns
returns c =
    ap Err c.at-2.ensures ∙ left (goal.at.returns c).Joined-else-n-rest
