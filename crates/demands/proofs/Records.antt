-- The table of records: each case computes. Assumes nothing.
use mathlib.Core.Path.{refl}
use Rattle.two_wire.specs.Span.{within, stores, following}
use Rattle.two_wire.specs.Region.{region_of as wires_region_of, read_at, byte_at}
use Rattle.two_wire.specs.Record.{phase_of, holding, one_more, gathers}
use Rattle.two_wire.specs.Gathered.{landed_at, landed_to, landed, counter_after}
use Rattle.two_wire.specs.Event.{after, device, addressed, sent, stopped, read_on, read, by_event, by_memory, by_size, does}
use Rattle.demands.specs.Records.{RecordCases, EveryBusCase}
use Rattle.demands.proofs.Computes.{computes}

pub record_cases : RecordCases
unfolding computes
record_cases = record {
  states = (refl, refl, refl, refl, refl);
  largest = (refl, refl);
  unused = (refl, refl, refl);
  no_state = (refl, refl);
  no_wait = (refl, refl);
  no_flag = (refl, refl);
  no_answered = (refl, refl);
  wakes = (refl, refl);
  sleeps = (refl, refl);
  enters_out = refl;
  field_losses = (refl, refl, refl);
  refused_image = (refl, refl);
  refused_buffer = (refl, refl, refl);
}

pub bus_cases : EveryBusCase
unfolding computes within stores following wires_region_of read_at byte_at phase_of holding one_more gathers landed_at landed_to landed counter_after after device addressed sent stopped read_on read by_event by_memory by_size does
bus_cases mem e = record {
  rest_read = (rw e, rw e);
  rest_sent = (rw e, rw e);
  rest_starts = rw e;
  rest_stops = rw e;
  refused_event = record { outcome = rw e; answer = rw e };
  refused_memory = (record { outcome = refl; answer = refl }, record { outcome = refl; answer = refl });
  every_place = (rw e, rw e, rw e, rw e);
  counts_on = (rw e, rw e, rw e);
  outside = (rw e, rw e, rw e);
  counters = (rw e, rw e, rw e, rw e);
}
