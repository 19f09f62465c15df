-- `graph::ring_through` meets its contract: a ring through t passes a job of X that t waits for. Assumes nothing.
use native.Mathlib.Omega.{arith}
use Rattle.graph.proofs.RingLaws.{ring_tested}
use Rattle.graph.proofs.ring_through.Goals as goal

pub returns : goal.returns
returns c = let a = c.args in ring_tested a.rows.now a.t a.x c.requires.t_in_bounds c.requires.mask_of (omega (arith, c.type_inv.rows a.t))
