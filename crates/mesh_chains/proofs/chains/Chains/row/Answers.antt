-- `mesh_chains::chains::Chains::row` meets its contract. Assumes nothing.
use borrow.Author.Rules.{rules}
use Rattle.mesh_chains.specs.Written.{stretch}
use Rattle.mesh_chains.proofs.StretchLaws.{row_ends, row_read}
use Rattle.mesh_chains.proofs.chains.Chains.row.Goals as goal

pub slice_bounds-result-count : goal.slice_bounds-result-count
slice_bounds-result-count c = (row_ends _ _ _ c.args.self.written _ _ _ c.requires.0 c.requires.1 c.from.ensures c.from-2.ensures).0

pub slice_bounds-result-start : goal.slice_bounds-result-start
slice_bounds-result-start c = let there = row_ends _ _ _ c.args.self.written _ _ _ c.requires.0 c.requires.1 c.from.ensures c.from-2.ensures in search (rules, there)

pub slice_bounds-result-end : goal.slice_bounds-result-end
slice_bounds-result-end c = let there = row_ends _ _ _ c.args.self.written _ _ _ c.requires.0 c.requires.1 c.from.ensures c.from-2.ensures in search (rules, there)

pub returns : goal.returns
unfolding stretch
returns c = row_read _ _ _ c.args.self.written _ _ _ c.requires.0 c.requires.1 c.from.ensures c.from-2.ensures
