-- `passed_over` goes by what the step was.
use native.Mathlib.Omega.{arith}
use Rattle.paper.specs.Steps.{settle, pass_over, follow, give}
use Rattle.rows.proofs.passed_over.Goals as goal

pub returns-in-Err : goal.returns-in-Err
unfolding settle pass_over follow give
returns-in-Err c n os st = grind arith

pub returns-in_default : goal.returns-in_default
unfolding settle pass_over follow give
returns-in_default c n os st = grind arith

pub returns-in_default-2 : goal.returns-in_default-2
unfolding settle pass_over follow give
returns-in_default-2 c n os st = grind arith
