-- `strip::event_of` meets its contract. Assumes nothing.
use Rattle.strip.proofs.event_of.Goals as goal

pub returns-in-Changes : goal.returns-in-Changes
returns-in-Changes c =
    rw c.in-Changes.is

pub returns-in-Delays : goal.returns-in-Delays
returns-in-Delays c =
    rw c.in-Delays.is

pub returns-in-Cancels : goal.returns-in-Cancels
returns-in-Cancels c =
    rw c.in-Cancels.is

pub returns-in-Departs : goal.returns-in-Departs
returns-in-Departs c =
    rw (c.in-Departs.is, c.time_in.ensures, c.field.ensures)

pub returns-in-Arrives : goal.returns-in-Arrives
returns-in-Arrives c =
    rw (c.in-Arrives.is, c.time_in-in-Arrives.ensures, c.of.ensures, c.last_field-landed.ensures)
