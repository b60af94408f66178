-- The table's entry for a child, where its parent's is known.
use Rattle.std.proofs.Common.{◌≡◌, ℕ, ◌+◌, ◌<◌, ◌≤◌, List, [], ◌∷◌, length, take, sym, ap, ◌∙◌, arith, length-append, length-take}
use Rattle.exact.specs.Cyclotomic.{Cyclotomic}
use Rattle.exact.specs.JobNumbers.{JobNumbers}
use Rattle.chains.specs.Books.{Placement}
use Rattle.chains.specs.Addresses.{Address, level, child_address}
use Rattle.nodes.specs.Table.{there, table, child_entry, cornered}
use Rattle.nodes.proofs.Tabled.{table_child}

pub taken_short : (n : ℕ) (path : List ℕ) → length (take n path) ≤ n
taken_short n path = simp length-take (omega arith)

-- the address b is of child k of the node a, which lies at p; D is the depth of the job
pub family_entry : (E : Cyclotomic) (N M : JobNumbers) (a b : Address) (p : Placement E) (k n D : ℕ) →
    M ≡ N → b ≡ child_address a k → level b ≤ n → n ≤ D → N.depth ≡ D → there p ≡ table E N a → cornered E M (child_entry E M p k) ≡ table E N b
family_entry E N M a b p k n D m e l h d t =
    let long : level b ≡ length (a.path) + 1 = ap level e ∙ length-append a.path (k ∷ []) in
    let high : level a < N.depth = omega arith in
    ap (λ X. cornered E X (child_entry E X p k)) m ∙ table_child E N a p k high (sym t) ∙ ap (table E N) (sym e)
