use Rattle.stores.proofs.HeaderSlots.{SweptHeaders}
use Rattle.stores.proofs.headers.sweep_headers.Given as goal

abbrev pub invariant-loop-n : goal.invariant-loop-n
invariant-loop-n l = SweptHeaders l.time l.initial.headers l.n l.headers l.swept
