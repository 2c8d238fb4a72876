-- Lines: the laws of the next line at a place, of further reads, and of all lines, cut one by one. Assumes nothing.
use Prim.Native.Nat.{ℕ, suc, ◌+◌, ◌≤◌, ◌<◌}
use mathlib.Core.Path.{◌≡◌, refl, sym, ap, subst, ◌∙◌}
use mathlib.Core.Bool.{Bool, true, false, cond, false≢true, true≢false}
use mathlib.Core.List.{List, [], ◌∷◌, ◌++◌, append-nil, append_assoc}
use native.Mathlib.Omega.{arith}
use lib.Dec.{eqb}
use lib.ListN.{length, take, drop, get_or, set}
use lib.Seq.{take-suc-set, length-take-le, drop-cons, get_or-take}
use borrow.Author.Tests.{eq-eqb, ne_eqb, lt-ltb, le-ltb}
use Rattle.text.proofs.Index.{drop_end}
use Rattle.journal.specs.declared.Journal.{Journal}
use Rattle.journal.specs.declared.Journal.TheVariants.{Nowhere}
use Rattle.journal.specs.declared.Waiting.{Waiting}
use Rattle.journal.specs.declared.Waiting.TheVariants.{Holds, TooLong}
use Rattle.journal.specs.declared.Stage.{Stage}
use Rattle.journal.specs.declared.Stage.TheVariants.{Ended, Open, Stopped, Failed}
use Rattle.journal.specs.declared.Reader.{Reader}
use Rattle.journal.specs.declared.Taken.{Taken}
use Rattle.journal.specs.Lines.{Waits, fresh, pushed, Line, line_from, lines_from, waits_then, count, waits_in, left_in, has_ended, Scans, ReadsOn, Answers}

-- A JOURNAL

pub answers_nowhere : (j : Journal) → j ≡ Nowhere → Answers j true
answers_nowhere j e = subst (λ (x : Journal). Answers x true) (sym e) refl

-- A BYTE

pub pushed_on : (n : ℕ) (line : List ℕ) (x : ℕ) → length line ≡ 4096 → n < 4096 → waits_in (Holds (n + 1)) (set line n x) ≡ pushed (waits_in (Holds n) line) x
pushed_on n line x room h =
    let long : length (take n line) ≡ n = length-take-le n line (omega arith) in
    let free : length (take n line) < 4096 = omega (arith, long, h) in
    let plus : n + 1 ≡ suc n = omega arith in
    rw (lt-ltb (length (take n line)) 4096 free)
    (ap (λ (s : List ℕ). record { pending = s; over = false }) (ap (λ (k : ℕ). take k (set line n x)) plus ∙ take-suc-set line n x (omega arith)))

pub pushed_full : (n : ℕ) (line : List ℕ) (x : ℕ) → length line ≡ 4096 → n ≤ 4096 → 4096 ≤ n → waits_in TooLong line ≡ pushed (waits_in (Holds n) line) x
pushed_full n line x room inside h =
    let long : length (take n line) ≡ n = length-take-le n line (omega arith) in
    let full : 4096 ≤ length (take n line) = omega (arith, long, h) in
    rw (le-ltb (length (take n line)) 4096 full) refl

-- THE NEXT LINE, from a place on: within, at its end, and where nothing is left

module _ (w : Waits) (chunk : List ℕ) (got at : ℕ) (fits : got ≤ length chunk) where
  abbrev whole : List ℕ
  whole = take got chunk

  long : length whole ≡ got
  long = length-take-le got chunk fits

  none_left : got ≤ at → drop at whole ≡ []
  none_left h = drop_end whole at (omega (arith, long))

  pub line_open : got ≤ at → record { waits = w; left = drop at whole; ended = false } ≡ line_from w (drop at whole)
  line_open h = ap (λ (s : List ℕ). record { waits = w; left = s; ended = false }) (none_left h) ∙ ap (line_from w) (sym (none_left h))

  module _ (less : at < got) where
    cut_here : drop at whole ≡ get_or chunk at 0 ∷ drop (at + 1) whole
    cut_here =
        let plus : suc at ≡ at + 1 = omega arith in
        drop-cons whole at 0 (omega (arith, long))
        ∙ ap (λ (x : ℕ). x ∷ drop (suc at) whole) (get_or-take got chunk at 0 less)
        ∙ ap (λ (k : ℕ). get_or chunk at 0 ∷ drop k whole) plus

    here : (t : Bool) → eqb (get_or chunk at 0) 10 ≡ t
        → line_from w (drop at whole)
        ≡ cond t (record { waits = w; left = drop (at + 1) whole; ended = true }) (line_from (pushed w (get_or chunk at 0)) (drop (at + 1) whole))
    here t e =
        let rest : List ℕ = drop (at + 1) whole in
        ap (line_from w) cut_here
        ∙ ap (λ (b : Bool). cond b (record { waits = w; left = rest; ended = true }) (line_from (pushed w (get_or chunk at 0)) rest)) e

    pub line_end_lem : get_or chunk at 0 ≡ 10 → record { waits = w; left = drop (at + 1) whole; ended = true } ≡ line_from w (drop at whole)
    line_end_lem e = sym (here true (eq-eqb (get_or chunk at 0) 10 e))

    pub line_next : (get_or chunk at 0 ≡ 10 → ⊥) → line_from (pushed w (get_or chunk at 0)) (drop (at + 1) whole) ≡ line_from w (drop at whole)
    line_next n = sym (here false (ne_eqb (get_or chunk at 0) 10 n))

-- FURTHER READS

-- a line that has not ended goes on in what comes
goes_on_lem : (s : List ℕ) (w : Waits) (m : List ℕ) → (line_from w s).ended ≡ false → line_from w (s ++ m) ≡ line_from (line_from w s).waits m
goes_on_lem [] w m e = refl
goes_on_lem (x ∷ s) w m e = go (eqb x 10) (goes_on_lem s (pushed w x) m) e
  where
    go : (t : Bool) → ((line_from (pushed w x) s).ended ≡ false → line_from (pushed w x) (s ++ m) ≡ line_from (line_from (pushed w x) s).waits m)
        → (cond t (record { waits = w; left = s; ended = true }) (line_from (pushed w x) s)).ended ≡ false
        → cond t (record { waits = w; left = s ++ m; ended = true }) (line_from (pushed w x) (s ++ m))
        ≡ line_from (cond t (record { waits = w; left = s; ended = true }) (line_from (pushed w x) s)).waits m
    go true r h = absurd (true≢false h)
    go false r h = r h

-- nothing more came
pub reads_nothing : (w : Waiting) (stage : Stage) (t : Taken) (chunk line : List ℕ) → count w ≤ 4096 → length chunk ≡ 4096 → length line ≡ 4096
    → has_ended stage ≡ false → t ≡ record { reader = record { at = 0; got = 0 }; waiting = w; stage = stage }
    → ReadsOn (waits_in w line) [] t chunk line
reads_nothing w stage t chunk line inside chunk_long line_long going e =
    subst (λ (x : Taken). ReadsOn (waits_in w line) [] x chunk line) (sym e)
    (record {
      more = [];
      line_is = ap (λ (b : Bool). record { waits = waits_in w line; left = []; ended = b }) going;
      lies =
          record { in_order_lem = omega arith; in_chunk = omega arith; in_line = inside; chunk_long = chunk_long; line_long = line_long };
    })

module _ (r : Reader) (w : Waiting) (chunk line : List ℕ) (t : Taken) (line' : List ℕ) (k : Scans r w chunk line t line') where
  -- within what was left
  pub reads_left : ReadsOn (waits_in w line) (left_in r chunk) t chunk line'
  reads_left =
      record {
        more = [];
        line_is = k.line_is ∙ ap (line_from (waits_in w line)) (sym (append-nil (left_in r chunk)));
        lies = k.lies;
      }

  -- within what was read
  pub reads_some : ReadsOn (waits_in w line) [] t chunk line'
  reads_some = record { more = left_in r chunk; line_is = k.line_is; lies = k.lies }

-- one read behind the other
pub reads_more : (w : Waits) (left : List ℕ) (t : Taken) (chunk line : List ℕ) (u : Taken) (chunk' line' : List ℕ) → ReadsOn w left t chunk line
    → t.stage ≡ Open → ReadsOn (waits_in t.waiting line) [] u chunk' line' → ReadsOn w left u chunk' line'
reads_more w left t chunk line u chunk' line' k g n =
    let s : List ℕ = left ++ k.more in
    let still : (line_from w s).ended ≡ false = sym (ap (λ (l : Line). l.ended) k.line_is) ∙ ap has_ended g in
    record {
      more = k.more ++ n.more;
      line_is =
          n.line_is
          ∙ ap (λ (v : Waits). line_from v n.more) (ap (λ (l : Line). l.waits) k.line_is)
          ∙ sym (goes_on_lem s w n.more still)
          ∙ ap (line_from w) (append_assoc left k.more n.more);
      lies = n.lies;
    }

-- what the reads so far have made of what there was
pub record Onward (t : Taken) (chunk line : List ℕ) (u : Taken) (chunk' line' : List ℕ) : Type 0 where
  pub on : (w : Waits) (left : List ℕ) → ReadsOn w left t chunk line → ReadsOn w left u chunk' line'

pub onward_none : (t : Taken) (chunk line : List ℕ) → Onward t chunk line t chunk line
onward_none t chunk line = record { on = λ w left k. k }

pub onward_next : (t : Taken) (chunk line : List ℕ) (u : Taken) (chunk' line' : List ℕ) (v : Taken) (chunk'' line'' : List ℕ)
    → Onward t chunk line u chunk' line' → u.stage ≡ Open → ReadsOn (waits_in u.waiting line') [] v chunk'' line'' → Onward t chunk line v chunk'' line''
onward_next t chunk line u chunk' line' v chunk'' line'' o g n =
    record { on = λ w left k. reads_more w left u chunk' line' v chunk'' line'' (o.on w left k) g n }

pub not_ended : (s : Stage) → (s ≡ Ended → ⊥) → has_ended s ≡ false
not_ended Ended n = absurd (n refl)
not_ended Open n = refl
not_ended Stopped n = refl
not_ended Failed n = refl

-- the end of the input ends a line too
pub reads_last : (w : Waits) (left : List ℕ) (t : Taken) (chunk line : List ℕ) → ReadsOn w left t chunk line → has_ended t.stage ≡ false
    → ReadsOn w left (record { reader = record { at = 0; got = 0 }; waiting = t.waiting; stage = Ended }) chunk line
reads_last w left t chunk line k o =
    let s : List ℕ = left ++ k.more in
    let still : (line_from w s).ended ≡ false = sym (ap (λ (l : Line). l.ended) k.line_is) ∙ o in
    record {
      more = k.more ++ (10 ∷ []);
      line_is =
          ap (λ (v : Waits). record { waits = v; left = []; ended = true }) (ap (λ (l : Line). l.waits) k.line_is)
          ∙ sym (goes_on_lem s w (10 ∷ []) still)
          ∙ ap (line_from w) (append_assoc left k.more (10 ∷ []));
      lies =
          record {
            in_order_lem = omega arith;
            in_chunk = omega arith;
            in_line = k.lies.in_line;
            chunk_long = k.lies.chunk_long;
            line_long = k.lies.line_long;
          };
    }

-- ALL LINES, cut one by one

-- the bytes of a line, its end with them
abbrev head_of : List ℕ → List ℕ
head_of [] = []
head_of (x ∷ s) = x ∷ cond (eqb x 10) [] (head_of s)

lines_head : (s : List ℕ) (w : Waits) (u : List ℕ) → (line_from w s).ended ≡ true → lines_from w (head_of s ++ u) ≡ (line_from w s).waits ∷ lines_from fresh u
lines_head [] w u e = absurd (false≢true e)
lines_head (x ∷ s) w u e = go (eqb x 10) (lines_head s (pushed w x) u) e
  where
    go : (t : Bool)
        → ((line_from (pushed w x) s).ended ≡ true → lines_from (pushed w x) (head_of s ++ u) ≡ (line_from (pushed w x) s).waits ∷ lines_from fresh u)
        → (cond t (record { waits = w; left = s; ended = true }) (line_from (pushed w x) s)).ended ≡ true
        → cond t (w ∷ lines_from fresh (cond t [] (head_of s) ++ u)) (lines_from (pushed w x) (cond t [] (head_of s) ++ u))
        ≡ (cond t (record { waits = w; left = s; ended = true }) (line_from (pushed w x) s)).waits ∷ lines_from fresh u
    go true r h = refl
    go false r h = r h

waits_head : (s : List ℕ) (w : Waits) (u : List ℕ) → (line_from w s).ended ≡ true → waits_then w (head_of s ++ u) ≡ waits_then fresh u
waits_head [] w u e = absurd (false≢true e)
waits_head (x ∷ s) w u e = go (eqb x 10) (waits_head s (pushed w x) u) e
  where
    go : (t : Bool) → ((line_from (pushed w x) s).ended ≡ true → waits_then (pushed w x) (head_of s ++ u) ≡ waits_then fresh u)
        → (cond t (record { waits = w; left = s; ended = true }) (line_from (pushed w x) s)).ended ≡ true
        → waits_then (cond t fresh (pushed w x)) (cond t [] (head_of s) ++ u) ≡ waits_then fresh u
    go true r h = refl
    go false r h = r h

lines_none : (s : List ℕ) (w : Waits) → (line_from w s).ended ≡ false → lines_from w s ≡ []
lines_none [] w e = refl
lines_none (x ∷ s) w e = go (eqb x 10) (lines_none s (pushed w x)) e
  where
    go : (t : Bool) → ((line_from (pushed w x) s).ended ≡ false → lines_from (pushed w x) s ≡ [])
        → (cond t (record { waits = w; left = s; ended = true }) (line_from (pushed w x) s)).ended ≡ false
        → cond t (w ∷ lines_from fresh s) (lines_from (pushed w x) s) ≡ []
    go true r h = absurd (true≢false h)
    go false r h = r h

waits_none : (s : List ℕ) (w : Waits) → (line_from w s).ended ≡ false → waits_then w s ≡ (line_from w s).waits
waits_none [] w e = refl
waits_none (x ∷ s) w e = go (eqb x 10) (waits_none s (pushed w x)) e
  where
    go : (t : Bool) → ((line_from (pushed w x) s).ended ≡ false → waits_then (pushed w x) s ≡ (line_from (pushed w x) s).waits)
        → (cond t (record { waits = w; left = s; ended = true }) (line_from (pushed w x) s)).ended ≡ false
        → waits_then (cond t fresh (pushed w x)) s ≡ (cond t (record { waits = w; left = s; ended = true }) (line_from (pushed w x) s)).waits
    go true r h = absurd (true≢false h)
    go false r h = r h

-- bytes that are whole lines
pub record Cut (t : List ℕ) (ws : List Waits) : Type 0 where
  pub lines_are : (u : List ℕ) → lines_from fresh (t ++ u) ≡ ws ++ lines_from fresh u
  pub waits_are : (u : List ℕ) → waits_then fresh (t ++ u) ≡ waits_then fresh u

pub cut_none : Cut [] []
cut_none = record { lines_are = λ u. refl; waits_are = λ u. refl }

pub cut_next : (t : List ℕ) (ws : List Waits) (s : List ℕ) → Cut t ws → (line_from fresh s).ended ≡ true
    → Cut (t ++ head_of s) (ws ++ ((line_from fresh s).waits ∷ []))
cut_next t ws s k e =
    record {
      lines_are =
          λ u.
          ap (lines_from fresh) (append_assoc t (head_of s) u)
          ∙ k.lines_are (head_of s ++ u)
          ∙ ap (λ (l : List Waits). ws ++ l) (lines_head s fresh u e)
          ∙ sym (append_assoc ws ((line_from fresh s).waits ∷ []) (lines_from fresh u));
      waits_are = λ u. ap (waits_then fresh) (append_assoc t (head_of s) u) ∙ k.waits_are (head_of s ++ u) ∙ waits_head s fresh u e;
    }

-- and bytes behind them that have not ended
pub cut_lines : (t : List ℕ) (ws : List Waits) (s : List ℕ) → Cut t ws → (line_from fresh s).ended ≡ false → lines_from fresh (t ++ s) ≡ ws
cut_lines t ws s k e = k.lines_are s ∙ ap (λ (l : List Waits). ws ++ l) (lines_none s fresh e) ∙ append-nil ws

pub cut_waits : (t : List ℕ) (ws : List Waits) (s : List ℕ) → Cut t ws → (line_from fresh s).ended ≡ false → waits_then fresh (t ++ s)
    ≡ (line_from fresh s).waits
cut_waits t ws s k e = k.waits_are s ∙ waits_none s fresh e
