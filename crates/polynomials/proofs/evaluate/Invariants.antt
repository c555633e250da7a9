-- `polynomials::evaluate` meets its contract. The loop's invariant: v is what Horner's rule has of the coefficients taken.
use mathlib.Core.Path.{◌≡◌}
use Prim.Native.Nat.{◌-◌, ◌≤◌}
use lib.ListN.{length, get_or}
use lib.IntN.{pos}
use Rattle.polynomials.proofs.Horner.{from}
use Rattle.polynomials.proofs.evaluate.Given as goal

abbrev pub invariant-loop-c : goal.invariant-loop-c
invariant-loop-c l =
    record {
      can : (goal.iterator-loop-c).can_next l.c-iterator;
      finite : (goal.iterator-loop-c).is_finite l.c-iterator;
      few : length l.yielded ≤ 7;
      value : l.v ≡ from (λ k. get_or l.p k (pos 0)) l.x (7 - length l.yielded) (length l.yielded);
    }
