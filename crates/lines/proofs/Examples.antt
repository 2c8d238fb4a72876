-- The lines of document 01's listing. Assumes nothing.
use Prim.Native.Nat.{◌≤◌}
use mathlib.Core.Path.{◌≡◌, refl, sym, ap, ◌∙◌}
use mathlib.Core.List.{List}
use native.Mathlib.Omega.{arith}
use Prim.Native.Nat.{ℕ}
use lib.ListN.{length}
use Rattle.alphabet.specs.Text.{bytes}
use Rattle.alphabet.specs.Alphabet.{white}
use Rattle.space.specs.Reduced.{opens, closes, stands_for_run, reduced_from, reduced}
use Rattle.space.specs.Hyphens.{hyphens}
use Rattle.kinds.specs.declared.MessageType.TheVariants.{Cnl}
use Rattle.kinds.specs.Kinds.{brief_forms, forms_of}
use Rattle.message.specs.Answer.{Answer}
use Rattle.message.specs.Reading.{spelling_of, answer_of}
use Rattle.message.proofs.Examples.{cancelled, not_a_time, not_read}
use Rattle.lines.specs.Lines.{decimal, opening, accepted_line, refused_line, line_as, line_of}
use Rattle.lines.proofs.Rooms.{enough}

-- the line by an answer that was given with another room
line_by : (m : List ℕ) (room : ℕ) (a : Answer) → length m ≤ room → answer_of m room ≡ a → line_of m ≡ line_as a m
unfolding line_of
line_by m room a h e = ap (λ (b : Answer). line_as b m) (sym (enough m room h) ∙ e)

spelled : spelling_of Cnl (bytes "(CNL-ABC12-EHAM0930-EDDF-0)") ≡ bytes "(CNL-ABC12-EHAM0930-EDDF-0)"
unfolding spelling_of forms_of brief_forms reduced reduced_from stands_for_run opens closes white hyphens
spelled = refl

pub cancelled_line : line_of (bytes "(CNL-ABC12-EHAM0930-EDDF-0)") ≡ bytes "OK CNL (CNL-ABC12-EHAM0930-EDDF-0)\n"
unfolding accepted_line opening
cancelled_line = line_by _ 100 _ (omega arith) cancelled ∙ ap (accepted_line Cnl) spelled

pub not_a_time_line : line_of (bytes "(DLA-ABC12-EHAM2460-EDDF-0)") ≡ bytes "NO 7 13 16\n"
unfolding refused_line decimal
not_a_time_line = line_by _ 100 _ (omega arith) not_a_time

pub not_read_line : line_of (bytes "(ACP-ABC12)") ≡ bytes "NO 5 3 0\n"
unfolding refused_line decimal
not_read_line = line_by _ 100 _ (omega arith) not_read
