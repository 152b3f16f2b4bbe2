use Rattle.stores.proofs.Slots.{SweptSlots}
use Rattle.stores.proofs.pages.sweep_slots.Given as goal

abbrev pub invariant-loop-n : goal.invariant-loop-n
invariant-loop-n l = SweptSlots l.bank l.time l.initial.pages l.n l.pages l.swept
