-- `radio::hear::hear` meets its contract. Assumes nothing.
use Rattle.std.proofs.Common.{refl}
use Rattle.radio.proofs.Hearing.{heard_by, heard_any}
use Rattle.radio.proofs.hear.hear.Goals as goal

pub returns-in-Idle : goal.returns-in-Idle
returns-in-Idle c = heard_any _ _ _ _ _ _ _ _ _ c.hearing-state.ensures c.in-Idle.is _ _ refl c.idle.ensures

pub returns-in-Halt : goal.returns-in-Halt
returns-in-Halt c = heard_any _ _ _ _ _ _ _ _ _ c.hearing-state.ensures c.in-Halt.is _ _ refl c.halt.ensures

pub returns-in-Ready1 : goal.returns-in-Ready1
returns-in-Ready1 c = heard_any _ _ _ _ _ _ _ _ _ c.hearing-state.ensures c.in-Ready1.is _ _ refl c.ready1.ensures

pub returns-in-Ready2 : goal.returns-in-Ready2
returns-in-Ready2 c = heard_any _ _ _ _ _ _ _ _ _ c.hearing-state.ensures c.in-Ready2.is _ _ refl c.ready2.ensures

pub returns-in-Active : goal.returns-in-Active
returns-in-Active c = heard_by _ _ _ _ _ _ _ _ _ c.hearing-state.ensures c.in-Active.is _ _ _ _ c.moved-tag.ensures c.active.ensures
