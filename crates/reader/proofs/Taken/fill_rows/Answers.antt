-- `reader::Taken::fill_rows`: the table has the states of the text, so its rows are the jobs'.
use mathlib.Core.Path.{sym, ap, ◌∙◌}
use Rattle.std.proofs.Common.{rules}
use lib.ListN.{length}
use native.Mathlib.Omega.{arith}
use Rattle.reader.proofs.TableLaws.{states_size, table_all, table_fits}
use Rattle.reader.proofs.FillLaws.{small, row_is, filled_as}
use Rattle.reader.proofs.Taken.fill_rows.Goals as goal

pub put_states-requires : goal.put_states-requires
put_states-requires c = let s = c.args.self in let w = small _ s.unrefused _ s.header in table_all _ _ w.1 w.3

pub overflow_mul-states : goal.overflow_mul-states
overflow_mul-states c = let s = c.args.self in let w = small _ s.unrefused _ s.header in let m = table_all _ _ w.1 w.3 in omega arith

pub slice_bounds-states-end : goal.slice_bounds-states-end
slice_bounds-states-end c = let s = c.args.self in let w = small _ s.unrefused _ s.header in let m = table_all _ _ w.1 w.3 in omega (arith, m, c.put_states.auto.table)

pub slice_bounds-table-end : goal.slice_bounds-table-end
slice_bounds-table-end c = sym (ap length c.put_states.ensures ∙ states_size _ _ _)

pub invariant_of-table : goal.invariant_of-table
invariant_of-table c = let s = c.args.self in let w = small _ s.unrefused _ s.header in record { shape = table_fits _ _ _ w.1 w.3 c.put_states.ensures }

pub returns : goal.returns
returns c = filled_as _ _ _ _ _ (λ j v l e. row_is _ _ _ _ _ c.put_states.ensures (search rules)) c.fill.ensures
