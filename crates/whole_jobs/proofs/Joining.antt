-- Pieces laid one after the other.
use Rattle.std.proofs.Common.{◌≡◌, ◌++◌, [], ◌∷◌, List, Some, None, sym, refl, ap, ap₂, ◌∙◌, subst, append_assoc, append-nil}
use Rattle.std.proofs.lemmas.List.{map-append}
use Rattle.exact.specs.Cyclotomic.{Cyclotomic}
use Rattle.exact.specs.JobNumbers.{JobNumbers}
use Rattle.chains.specs.Books.{Placement}
use Rattle.chains.specs.Addresses.{Address, level, node_placement}
use Rattle.chains.proofs.Lists.{all_append}
use Rattle.nodes.specs.Table.{there, table}
use Rattle.nodes.proofs.Tabled.{table_there}
use Rattle.calls.specs.Records.{Record}
use Rattle.calls.specs.Sheets.{Cursor, Sheet, recorded}
use Rattle.whole_jobs.specs.Whole.{left, Laid, LaidSome}
use Rattle.whole_jobs.proofs.Lefts.{left_on, nothing_left}

module _ (E : Cyclotomic) (N : JobNumbers) where
  -- ---- none, one, and some behind others
  pub none_laid : (s t : Sheet E) → t.records ≡ s.records → left N s.cursor ≡ left N t.cursor → Laid E N [] s t
  none_laid s t e l = record { records = []; added = e ∙ sym (append-nil s.records); placed = refl; on_plane = tt; in_order = l }

  pub one_laid : (s : Sheet E) (c : Cursor) (p : Placement E) → s.cursor ≡ Some c → level c.node ≡ N.depth → table E N c.node ≡ there p → Laid E N (c.node ∷ []) s (recorded E N s c (Some p))
  one_laid s c p at deep e =
      let where_it_lies : p ≡ node_placement E N c.node = (table_there E N c.node p e).2 in record {
        records = record { descents = c.descents; laid = Some p } ∷ [];
        added = refl;
        placed = ap (λ q. Some q ∷ []) where_it_lies;
        on_plane = (e ∙ ap there where_it_lies, tt);
        in_order = ap (left N) at ∙ left_on N c.node deep;
      }

  pub joined : (ms ns : List Address) (s t u : Sheet E) → Laid E N ms s t → Laid E N ns t u → Laid E N (ms ++ ns) s u
  joined ms ns s t u x y = record {
    records = x.records ++ y.records;
    added = y.added ∙ ap (λ rs. rs ++ y.records) x.added ∙ append_assoc s.records x.records y.records;
    placed = map-append (λ (r : Record E). r.laid) x.records y.records ∙ ap₂ ◌++◌ x.placed y.placed ∙ sym (map-append (λ a. Some (node_placement E N a)) ms ns);
    on_plane = all_append _ ms ns x.on_plane y.on_plane;
    in_order = x.in_order ∙ ap (λ ks. ms ++ ks) y.in_order ∙ sym (append_assoc ms ns (left N u.cursor));
  }

  pub some_joined : (s t u : Sheet E) → LaidSome E N s t → LaidSome E N t u → LaidSome E N s u
  some_joined s t u x y = (x.0 ++ y.0, joined x.0 y.0 s t u x.1 y.1)

  -- ---- when nothing is left, all that was left is laid
  pub all_laid : (s t : Sheet E) → t.cursor ≡ None → LaidSome E N s t → Laid E N (left N s.cursor) s t
  all_laid s t e x = subst (λ ns. Laid E N ns s t) (sym (x.1.in_order ∙ ap (λ ns. x.0 ++ ns) (ap (left N) e ∙ nothing_left N) ∙ append-nil x.0)) x.1
