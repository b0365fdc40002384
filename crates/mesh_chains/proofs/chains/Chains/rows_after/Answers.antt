-- `mesh_chains::chains::Chains::rows_after` meets its contract. Assumes nothing.
use borrow.Author.Rules.{rules}
use Rattle.mesh_chains.specs.Written.{stretch}
use Rattle.mesh_chains.proofs.StretchLaws.{rest_ends, rest_read}
use Rattle.mesh_chains.proofs.chains.Chains.rows_after.Goals as goal

pub slice_bounds-result-count : goal.slice_bounds-result-count
slice_bounds-result-count c = (rest_ends _ _ _ c.args.self.written _ _ _ _ c.requires c.args.self.mesh.sized.n_is c.from.ensures c.from-2.ensures).0

pub slice_bounds-result-start : goal.slice_bounds-result-start
slice_bounds-result-start c = let there = rest_ends _ _ _ c.args.self.written _ _ _ _ c.requires c.args.self.mesh.sized.n_is c.from.ensures c.from-2.ensures in search (rules, there)

pub slice_bounds-result-end : goal.slice_bounds-result-end
slice_bounds-result-end c = let there = rest_ends _ _ _ c.args.self.written _ _ _ _ c.requires c.args.self.mesh.sized.n_is c.from.ensures c.from-2.ensures in search (rules, there)

pub returns : goal.returns
unfolding stretch
returns c = rest_read _ _ _ c.args.self.written _ _ _ _ c.requires c.args.self.mesh.sized.n_is c.from.ensures c.from-2.ensures
