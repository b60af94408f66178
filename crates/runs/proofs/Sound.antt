-- What every state of a run keeps: its nodes are reached by moves of frontiers, and its laid pieces lie where the laid nodes lie.
use Rattle.std.proofs.Common.{◌≡◌, ℕ, ◌+◌, true, List, [], ◌∷◌, ◌++◌, map, length, ◌+ℤ◌, Some, None, Option, Ok, Err, Result, sym, refl, ap, ap₂, ◌∙◌, subst, arith, append-nil, length-append}
use mathlib.Core.List.{map-append}
use Rattle.std.specs.List.{AllByRecursion}
use Rattle.exact.specs.Cyclotomic.{Cyclotomic, CyclotomicLaws}
use Rattle.exact.specs.Groups.{AbelianGroup, AbelianLaws}
use Rattle.exact.specs.JobNumbers.{JobNumbers}
use Rattle.chains.specs.Counts.{reading}
use Rattle.chains.specs.Books.{Placement, book_of}
use Rattle.chains.specs.Edges.{Edge, net, ReadsEdges}
use Rattle.chains.specs.Placements.{outlines}
use Rattle.chains.specs.Accepted.{Accepted}
use Rattle.chains.specs.Addresses.{Address, level, has_node, behind, pending, seed_on, advance, node_placement}
use Rattle.chains.specs.Frontiers.{Frontier, Reached, grown_outline, laid_outlines, lacking_outlines, seed_outlines}
use Rattle.chains.specs.Frontiers as frontiers
use Rattle.chains.proofs.Following.{follows}
use Rattle.chains.proofs.Lists.{all_append}
use Rattle.chains.proofs.Conserving as chains
use Rattle.ring_jobs.specs.Shapes.{Branching}
use Rattle.nodes.proofs.Tabled.{table_there}
use Rattle.calls.specs.Records.{Record, with_laid, laid_pieces}
use Rattle.calls.specs.Sheets.{Cursor, Sheet, AtNode, come_to, start, recorded}
use Rattle.calls.specs.Moves.{Move}
use Rattle.calls.proofs.Moving.{Moved}
use Rattle.calls.proofs.Moving as moving
use Rattle.files.specs.Calls.{Reason}
use Rattle.runs.specs.Runs.{State, node_at, at_hand, waiting, begun, noted, done, settled, retraced}
use Rattle.runs.specs.Law.{BoundaryConserved, ReadingConserved, ReadsAsTheSeed, NodesKept}
use Rattle.calls.proofs.Families as families
use Rattle.runs.proofs.Noting as noting

pieces_append : {E : Cyclotomic} (rs qs : List (Record E)) → laid_pieces (rs ++ qs) ≡ laid_pieces rs ++ laid_pieces qs
unfolding laid_pieces
pieces_append [] qs = refl
pieces_append (r ∷ rs) qs = ap (with_laid r.laid) (pieces_append rs qs) ∙ go r.laid (laid_pieces rs) (laid_pieces qs)
  where
    go : {E : Cyclotomic} (l : Option (Placement E)) (ps qs : List (Placement E)) → with_laid l (ps ++ qs) ≡ with_laid l ps ++ qs
    go None ps qs = refl
    go (Some p) ps qs = refl

module _ (E : Cyclotomic) (N : JobNumbers) where
  -- the nodes of a state
  abbrev pub frontier : State E → Frontier
  frontier s = record { laid = s.laid; aside = s.aside; pending = waiting E N s.sheet }

  pub record Sound (s : State E) : Type 0 where
    pub reached : Reached N (frontier s)
    pub pieces : laid_pieces s.sheet.records ≡ map (node_placement E N) s.laid
    pub counted : length s.sheet.records ≡ length s.laid + length s.aside

  -- a node that comes to the cursor waits first
  waits : (o : Option Address) → pending N (node_at (come_to o)) ≡ pending N o
  waits None = refl
  waits (Some a) = refl

  waiting_at : (s : Sheet E) (c : Cursor) → s.cursor ≡ Some c → waiting E N s ≡ c.node ∷ behind N c.node
  unfolding pending
  waiting_at s c e = ap (λ o. pending N (node_at o)) e

  waiting_on : (s : Sheet E) (c : Cursor) (l : Option (Placement E)) → waiting E N (recorded E N s c l) ≡ behind N c.node
  waiting_on s c l = waits (advance N c.node) ∙ (follows N).advancing c.node

  hand_at : (s : Sheet E) (c : Cursor) → s.cursor ≡ Some c → at_hand (node_at s.cursor) ≡ c.node ∷ []
  hand_at s c e = ap (λ o. at_hand (node_at o)) e

  -- a frontier by its parts
  same_frontier : (ls ls' ss ss' ps ps' : List Address) → ls ≡ ls' → ss ≡ ss' → ps ≡ ps' →
      ◌≡◌ {A = Frontier} (record { laid = ls; aside = ss; pending = ps }) (record { laid = ls'; aside = ss'; pending = ps' })
  same_frontier ls ls' ss ss' ps ps' e f g = λ i. record { laid = e i; aside = f i; pending = g i }

  same_length : (s a : Sheet E) → s ≡ a → length s.records ≡ length a.records
  same_length s a e = ap (λ (z : Sheet E). length z.records) e

  pub sound_start : Sound (begun E N)
  unfolding begun start laid_pieces
  sound_start = record {
    reached = subst (λ ps. Reached N (record { laid = []; aside = []; pending = ps })) (sym (waits (seed_on N 0) ∙ (follows N).starting)) frontiers.at_start;
    pieces = refl;
    counted = refl;
  }

  at_cursor_of : (s : State E) (a : Sheet E) (c : Cursor) → s.sheet ≡ a → a.cursor ≡ Some c → s.sheet.cursor ≡ Some c
  at_cursor_of s a c e p = ap (λ (z : Sheet E). z.cursor) e ∙ p

  -- the node at the cursor, in its frontier
  at_node : (s : State E) (c : Cursor) → s.sheet.cursor ≡ Some c → Reached N (frontier s) → Reached N (record { laid = s.laid; aside = s.aside; pending = c.node ∷ behind N c.node })
  at_node s c e r = subst (λ ps. Reached N (record { laid = s.laid; aside = s.aside; pending = ps })) (waiting_at s.sheet c e) r

  module _ (B : Branching N) where
    -- an accepted move is a move of frontiers: the cursor's node stands first among those that wait
    pub sound_noted : (places : ℕ) (m : Move) (s : State E) (a u : Sheet E) → Moved E N places m a u → s.sheet ≡ a → Sound s → Sound (noted E N m s u)
    unfolding laid_pieces
    sound_noted places _ s _ _ (moving.descends a c p below) e k = record {
      reached = subst (λ ps. Reached N (record { laid = s.laid; aside = s.aside; pending = ps })) (sym ((follows N).descending c.node (families.has_children N B c.node)))
          (frontiers.then _ _ (at_node s c (at_cursor_of s a c e p) k.reached) (frontiers.expand s.laid s.aside [] (behind N c.node) c.node below));
      pieces = sym (ap (λ (z : Sheet E). laid_pieces z.records) e) ∙ k.pieces;
      counted = sym (ap (λ (z : Sheet E). length z.records) e) ∙ k.counted;
    }
    sound_noted places _ s _ _ (moving.lays a c p q at room f) e k =
        let hand = hand_at s.sheet c (at_cursor_of s a c e q) in
        record {
          reached = subst (Reached N) (sym (same_frontier _ _ _ _ _ _ (ap (◌++◌ s.laid) hand) refl (waiting_on a c (Some p))))
              (frontiers.then _ _ (at_node s c (at_cursor_of s a c e q) k.reached) (frontiers.lay s.laid s.aside [] (behind N c.node) c.node at));
          pieces = pieces_append a.records _
              ∙ ap₂ (λ ps x. ps ++ x ∷ []) (sym (ap (λ (z : Sheet E). laid_pieces z.records) e) ∙ k.pieces) (table_there E N c.node p f).2
              ∙ sym (ap (λ l. map (node_placement E N) (s.laid ++ l)) hand ∙ map-append (node_placement E N) s.laid (c.node ∷ []));
          counted = omega (arith, length-append a.records (record { descents = c.descents; laid = Some p } ∷ []), same_length s.sheet a e, k.counted, length-append s.laid (c.node ∷ []), ap (λ l. length (s.laid ++ l)) hand);
        }
    sound_noted places _ s _ _ (moving.sets_aside a c p room) e k =
        let hand = hand_at s.sheet c (at_cursor_of s a c e p) in
        record {
          reached = subst (Reached N) (sym (same_frontier _ _ _ _ _ _ refl (ap (◌++◌ s.aside) hand) (waiting_on a c None)))
              (frontiers.then _ _ (at_node s c (at_cursor_of s a c e p) k.reached) (frontiers.set_aside s.laid s.aside [] (behind N c.node) c.node));
          pieces = pieces_append a.records _ ∙ append-nil _ ∙ sym (ap (λ (z : Sheet E). laid_pieces z.records) e) ∙ k.pieces;
          counted = omega (arith, length-append a.records (record { descents = c.descents; laid = None } ∷ []), same_length s.sheet a e, k.counted, length-append s.aside (c.node ∷ []), ap (λ l. length (s.aside ++ l)) hand);
        }

    -- a move, accepted or refused, and several
    pub sound_done : (places : ℕ) (m : Move) (s : State E) → Sound s → Sound (settled E N s (done E N places m s))
    sound_done places m s k = go (done E N places m s) refl
      where
        go : (r : Result (State E) Reason) → done E N places m s ≡ r → Sound (settled E N s r)
        go (Ok t) e = let x = noting.done_means E N places m s t e in subst Sound x.2 (sound_noted places m s s.sheet x.0 x.1 refl k)
        go (Err w) e = k

    pub sound_retraced : (places : ℕ) (ms : List Move) (s : State E) → Sound s → Sound (retraced E N places ms s)
    unfolding retraced
    sound_retraced places [] s k = k
    sound_retraced places (m ∷ ms) s k = sound_retraced places ms (settled E N s (done E N places m s)) (sound_done places m s k)

  -- only nodes at the depth are laid
  laid_low : (f : Frontier) → Reached N f → AllByRecursion (λ a. level a ≡ N.depth) f.laid
  laid_low _ frontiers.at_start = tt
  laid_low _ (frontiers.then f g r m) = go f g m (laid_low f r)
    where
      go : (f g : Frontier) → frontiers.Move N f g → AllByRecursion (λ a. level a ≡ N.depth) f.laid → AllByRecursion (λ a. level a ≡ N.depth) g.laid
      go _ _ (frontiers.expand ls ss before after a below) h = h
      go _ _ (frontiers.lay ls ss before after a at) h = all_append _ ls (a ∷ []) h (at, tt)
      go _ _ (frontiers.set_aside ls ss before after a) h = h

  -- the cursor is at a node of the job
  at_node_of : (s : State E) → Sound s → AtNode N s.sheet.cursor
  unfolding pending
  at_node_of s k = go s.sheet.cursor (chains.reached_of_the_job N (frontier s) k.reached).2
    where
      go : (o : Option Cursor) → AllByRecursion (λ a. has_node N a ≡ true) (pending N (node_at o)) → AtNode N o
      go None h = tt
      go (Some c) h = h.0

  pub sound_nodes : (s : State E) → Sound s → NodesKept E N s
  sound_nodes s k = record {
    at_node = at_node_of s k;
    of_the_job = chains.reached_of_the_job N (frontier s) k.reached;
    at_depth = laid_low (frontier s) k.reached;
    counted = k.counted;
    pieces = k.pieces;
  }

-- what a sound state conserves
module _ (E : Cyclotomic) (L : CyclotomicLaws E) (N : JobNumbers) (A : Accepted E (book_of E N)) (s : State E) (k : Sound E N s) where
  -- the outlines of its laid pieces are those of its laid nodes
  laid_alike : outlines E (book_of E N) (laid_pieces s.sheet.records) ≡ laid_outlines E N (frontier E N s)
  laid_alike = ap (outlines E (book_of E N)) k.pieces ∙ sym (chains.laid_by_placements E L N (frontier E N s))

  pub sound_conserves : BoundaryConserved E N s
  unfolding lacking_outlines
  sound_conserves y = ap (λ c. net E (book_of E N) c y +ℤ net E (book_of E N) (lacking_outlines E N (frontier E N s)) y) laid_alike ∙ chains.reached_conserves E L N A (frontier E N s) k.reached y

  module _ (G : AbelianGroup) (M : AbelianLaws G) (r : Edge E → G.Val) (R : ReadsEdges E (book_of E N) G r) where
    pub sound_reads : ReadingConserved E N G r s
    unfolding lacking_outlines
    sound_reads = ap (λ c. G.sum (reading G r c) (reading G r (lacking_outlines E N (frontier E N s)))) laid_alike ∙ chains.readings_conserved E L N A G M r R (frontier E N s) k.reached

    pub sound_ends : ReadsAsTheSeed E N G r s
    unfolding pending
    sound_ends none bare = ap (reading G r) laid_alike ∙ chains.finished_reads E L N A G M r R (frontier E N s) k.reached bare (ap (λ o. pending N (node_at o)) none)
