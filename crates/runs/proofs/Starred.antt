-- All starred lines of document 01's edges as one table with one theorem: signs and adapted lists, the solver's call, the run.
use Rattle.signs.proofs.Edges.{SignEdges, sign_edges}
use Rattle.solver.proofs.Edges.{SolverEdges, solver_call_edges}
use Rattle.runs.proofs.Edges.{RunEdges, run_edges}

pub record Starred : Type 0 where
  pub signs : SignEdges
  pub solver : SolverEdges
  pub run : RunEdges

pub starred : Starred
starred = record { signs = sign_edges; solver = solver_call_edges; run = run_edges }
