-- A text has one reply.
use Rattle.std.proofs.Common.{◌≡◌, ℕ, ◌<◌, Bool, true, false, List, [], ◌∷◌, ◌++◌, length, Some, inl, inr, sym, refl, ap, ap₂, ◌∙◌, subst, arith, length-append}
use Rattle.std.specs.List.{AllByRecursion}
use Rattle.exact.specs.Cyclotomic.{Cyclotomic}
use Rattle.exact.specs.JobNumbers.{JobNumbers}
use Rattle.chains.specs.Books.{book_of}
use Rattle.chains.specs.Accepted.{Accepted}
use Rattle.chains.specs.Addresses.{Address, node_placement}
use Rattle.chains.proofs.Lists.{all_back}
use Rattle.jobs.specs.declared.ring.NamedRing.{NamedRing}
use Rattle.jobs.specs.declared.ring.NamedRing.TheVariants as named
use Rattle.jobs.specs.Rings.{order_of}
use Rattle.jobs.specs.Refusals.{Refused}
use Rattle.jobs.proofs.Verdicts.{refused_one, job_accepted, job_one}
use Rattle.jobs.proofs.Widths.{job_fits}
use Rattle.book.specs.Faults.{book_refusal}
use Rattle.book.specs.Points.{Point, Passed, Refuses}
use Rattle.book.specs.Points.Point.{the_factor, length_of, subdivision_of, outline_of, children_of}
use Rattle.book.specs.declared.fault.BookFault.{BookFault}
use Rattle.book.specs.declared.fault.BookFault.TheVariants.{Factor, Length, Subdivision, Outline, Unbalanced, Ring, Memory}
use Rattle.book.proofs.Balances.{no_difference}
use Rattle.small_books.specs.Sizes.{NotAccepted}
use Rattle.nodes.specs.Table.{Entry, there, outside, table}
use Rattle.calls.specs.Limits.{most_pieces}
use Rattle.calls.specs.Sheets.{no_room, off_plane}
use Rattle.sheet.specs.Answers.{fault}
use Rattle.sheet.specs.Faults.{sheet_refusal}
use Rattle.sheet.specs.declared.fault.SheetFault.{SheetFault}
use Rattle.whole_jobs.specs.Whole.{CannotBeLaid}
use Rattle.replies.specs.Replies.{Tells, CanBeLaid, BookRefused, PieceRefused, JobReply, ReplyOver, Spells, OneReply, of_job, of_text, refused_line}
use Rattle.replies.proofs.Replying.{no_number, same_number}

-- ---- two ways to part a list
module _ {A : Type 0} (P : A → Type 0) where
  head : (x y : A) (xs ys : List A) → ◌≡◌ {A = List A} (x ∷ xs) (y ∷ ys) → x ≡ y
  head x y xs ys e = cc

  tail : (x y : A) (xs ys : List A) → ◌≡◌ {A = List A} (x ∷ xs) (y ∷ ys) → xs ≡ ys
  tail x y xs ys e = cc

  -- the first of which P does not hold is one
  first_alone : (b c : List A) (x y : A) (a d : List A) → b ++ x ∷ a ≡ c ++ y ∷ d → AllByRecursion P b → AllByRecursion P c → (P x → ⊥) → (P y → ⊥) → x ≡ y
  first_alone [] [] x y a d e h k n m = head x y a d e
  first_alone [] (z ∷ c) x y a d e h k n m = absurd (n (subst P (sym (head x z a (c ++ y ∷ d) e)) k.0))
  first_alone (z ∷ b) [] x y a d e h k n m = absurd (m (subst P (head z y (b ++ x ∷ a) d e) h.0))
  first_alone (z ∷ b) (w ∷ c) x y a d e h k n m = first_alone b c x y a d (tail z w (b ++ x ∷ a) (c ++ y ∷ d) e) h.1 k.1 n m

  -- P holds of what comes before so many of which it holds
  in_longer : (b c : List A) (x y : A) (a d : List A) → b ++ x ∷ a ≡ c ++ y ∷ d → AllByRecursion P b → length c < length b → P y
  in_longer [] c x y a d e h l = absurd (omega arith)
  in_longer (z ∷ b) [] x y a d e h l = subst P (head z y (b ++ x ∷ a) d e) h.0
  in_longer (z ∷ b) (w ∷ c) x y a d e h l = in_longer b c x y a d (tail z w (b ++ x ∷ a) (c ++ y ∷ d) e) h.1 (omega arith)

same_numbers : (n p m q k l : ℕ) → (n ≡ k) × (p ≡ l) → (m ≡ k) × (q ≡ l) → (n ≡ m) × (p ≡ q)
same_numbers n p m q k l h g = (h.0 ∙ sym g.0, h.1 ∙ sym g.1)

module _ {S : Type 0} (E : Cyclotomic) (v : S → E.Elem) (N : JobNumbers) where
  -- ---- a book that is refused
  -- number and place go by the point
  told_number : Point → ℕ
  told_number the_factor = 4
  told_number (length_of e) = 4
  told_number (subdivision_of e) = 5
  told_number (outline_of t) = 6
  told_number (children_of t) = 7

  told_place : Point → ℕ
  told_place the_factor = length (book_of E N).labels
  told_place (length_of e) = e
  told_place (subdivision_of e) = e
  told_place (outline_of t) = t
  told_place (children_of t) = t

  abbrev ToldBy : Point → ℕ → ℕ → Type 0
  ToldBy x n p = (n ≡ told_number x) × (p ≡ told_place x)

  abbrev NotAccepts : BookFault S → Type 0
  NotAccepts f = NotAccepted (Accepted E (book_of E N)) f

  told_by : (x y : Point) (n p k l : ℕ) → x ≡ y → Tells (record { number = Some k; Places = λ q. q ≡ l; layer = (book_refusal {S = S} (Outline 0)).layer }) n p → k ≡ told_number y → l ≡ told_place y → ToldBy x n p
  told_by x y n p k l e h a b = subst (λ z. ToldBy z n p) (sym e) (sym (same_number k n h.0) ∙ a, h.1 ∙ b)

  tells_the_point : (x : Point) (f : BookFault S) (n p : ℕ) → Refuses E (book_of E N) v x f → NotAccepts f → Tells (book_refusal f) n p → ToldBy x n p
  unfolding told_number told_place
  tells_the_point x (Factor c) n p r a h = told_by x the_factor n p 4 c r.0 h refl r.1
  tells_the_point x (Length e) n p r a h = told_by x (length_of e) n p 4 e r.0 h refl refl
  tells_the_point x (Subdivision e) n p r a h = told_by x (subdivision_of e) n p 5 e r.0 h refl refl
  tells_the_point x (Outline t) n p r a h = told_by x (outline_of t) n p 6 t r.0 h refl refl
  tells_the_point x (Unbalanced t d) n p r a h = told_by x (children_of t) n p 7 t r.0 h refl refl
  tells_the_point x (Ring g) n p r a h = absurd a
  tells_the_point x Memory n p r a h = absurd (no_number h.0)

  not_passed : (x : Point) (f : BookFault S) (n p : ℕ) → Refuses E (book_of E N) v x f → NotAccepts f → Tells (book_refusal f) n p → Passed E (book_of E N) x → ⊥
  not_passed x (Factor c) n p r a h k = r.2 k.1
  not_passed x (Length e) n p r a h k = r.1 k.1
  not_passed x (Subdivision e) n p r a h k = r.1 k.1
  not_passed x (Outline t) n p r a h k = r.1 k.1
  not_passed x (Unbalanced t d) n p r a h k = no_difference E (book_of E N) _ _ (subst (λ z. Passed E (book_of E N) z) r.0 k).1 _ _ r.1
  not_passed x (Ring g) n p r a h k = absurd a
  not_passed x Memory n p r a h k = absurd (no_number h.0)

  one_fault : (n p m q : ℕ) → BookRefused E N v n p → BookRefused E N v m q → (n ≡ m) × (p ≡ q)
  one_fault n p m q (f, x, a, h) (g, y, b, k) =
      let same = first_alone (Passed E (book_of E N)) x.before y.before x.here y.here x.after y.after (sym x.found ∙ y.found) x.earlier y.earlier
      (not_passed x.here f n p x.refuses a h) (not_passed y.here g m q y.refuses b k) in
      same_numbers n p m q (told_number x.here) (told_place x.here) (tells_the_point x.here f n p x.refuses a h)
      (subst (λ z. ToldBy z m q) (sym same) (tells_the_point y.here g m q y.refuses b k))

  not_accepted : (n p : ℕ) → BookRefused E N v n p → Accepted E (book_of E N) → ⊥
  not_accepted n p (Factor c, x, a, h) k = a k
  not_accepted n p (Length e, x, a, h) k = a k
  not_accepted n p (Subdivision e, x, a, h) k = a k
  not_accepted n p (Outline t, x, a, h) k = a k
  not_accepted n p (Unbalanced t d, x, a, h) k = a k
  not_accepted n p (Ring g, x, a, h) k = a
  not_accepted n p (Memory, x, a, h) k = no_number h.0

  -- ---- a piece that cannot be laid
  abbrev Lies : Address → Type 0
  Lies a = table E N a ≡ there (node_placement E N a)

  not_outside : (a : Address) → table E N a ≡ outside → Lies a → ⊥
  not_outside a e h = go (sym e ∙ h)
    where
      go : ◌≡◌ {A = Entry E} outside (there (node_placement E N a)) → ⊥
      go k = absurd cc

  told_full : (f : SheetFault S) (n p : ℕ) → f ≡ fault no_room → Tells (sheet_refusal f) n p → (n ≡ 9) × (p ≡ 0)
  told_full f n p e h = let k = subst (λ g. Tells (sheet_refusal g) n p) e h in (sym (same_number 9 n k.0), k.1)

  told_off : (f : SheetFault S) (n p : ℕ) → f ≡ fault off_plane → Tells (sheet_refusal f) n p → (n ≡ 8) × (p ≡ 0)
  told_off f n p e h = let k = subst (λ g. Tells (sheet_refusal g) n p) e h in (sym (same_number 8 n k.0), k.1)

  one_stop : (n p m q : ℕ) → PieceRefused E N {S = S} v n p → PieceRefused E N {S = S} v m q → (n ≡ m) × (p ≡ q)
  one_stop n p m q (f, x, h) (g, y, k) = go x.stuck y.stuck
    where
      same : x.before ++ x.at ∷ x.behind ≡ y.before ++ y.at ∷ y.behind
      same = sym x.whole ∙ y.whole

      go : CannotBeLaid E N most_pieces (length x.before) x.at f → CannotBeLaid E N most_pieces (length y.before) y.at g → (n ≡ m) × (p ≡ q)
      go (inl a) (inl b) = same_numbers n p m q 9 0 (told_full f n p a.0 h) (told_full g m q b.0 k)
      go (inr a) (inr b) = same_numbers n p m q 8 0 (told_off f n p a.0 h) (told_off g m q b.0 k)
      go (inl a) (inr b) = absurd (not_outside y.at b.2 (in_longer Lies x.before y.before x.at y.at x.behind y.behind same x.on_plane (omega (arith, a.1, b.1))))
      go (inr a) (inl b) = absurd (not_outside x.at a.2 (in_longer Lies y.before x.before y.at x.at y.behind x.behind (sym same) y.on_plane (omega (arith, a.1, b.1))))

  -- what can be laid stops nowhere
  no_stop : CanBeLaid E N → (n p : ℕ) → PieceRefused E N {S = S} v n p → ⊥
  no_stop c n p (f, x, h) = go x.stuck
    where
      go : CannotBeLaid E N most_pieces (length x.before) x.at f → ⊥
      go (inl a) = omega (arith, a.1, c.room, ap length x.whole, length-append x.before (x.at ∷ x.behind))
      go (inr a) = not_outside x.at a.2 (all_back Lies x.before (x.at ∷ x.behind) (subst (AllByRecursion Lies) x.whole c.on_plane)).0

  -- ---- a job
  one_line : (n p m q : ℕ) (out other : List ℕ) → out ≡ refused_line n p → other ≡ refused_line m q → (n ≡ m) × (p ≡ q) → out ≡ other
  one_line n p m q out other e d h = e ∙ ap₂ refused_line h.0 h.1 ∙ sym d

  one_answer : (r s : Bool) (out other : List ℕ) → JobReply E N v r out → JobReply E N v s other → (r ≡ s) × (out ≡ other)
  one_answer false false out other h k = (refl, h.1 ∙ sym k.1)
  one_answer false true out other h (n, p, e, inl b) = absurd (not_accepted n p b h.0.accepted)
  one_answer false true out other h (n, p, e, inr b) = absurd (no_stop h.0 n p b)
  one_answer true false out other (n, p, e, inl b) k = absurd (not_accepted n p b k.0.accepted)
  one_answer true false out other (n, p, e, inr b) k = absurd (no_stop k.0 n p b)
  one_answer true true out other (n, p, e, inl a) (m, q, d, inl b) = (refl, one_line n p m q out other e d (one_fault n p m q a b))
  one_answer true true out other (n, p, e, inl a) (m, q, d, inr b) = absurd (not_accepted n p a b.1.passes.judged.accepted)
  one_answer true true out other (n, p, e, inr a) (m, q, d, inl b) = absurd (not_accepted m q b a.1.passes.judged.accepted)
  one_answer true true out other (n, p, e, inr a) (m, q, d, inr b) = (refl, one_line n p m q out other e d (one_stop n p m q a b))

-- ---- a text
same_ring : (r s : NamedRing) → order_of r ≡ order_of s → r ≡ s
same_ring named.Gaussian named.Gaussian e = refl
same_ring named.Gaussian named.Tenfold e = absurd (omega (arith, e))
same_ring named.Tenfold named.Gaussian e = absurd (omega (arith, e))
same_ring named.Tenfold named.Tenfold e = refl

over_one : (ring : NamedRing) (N : JobNumbers) (r s : Bool) (out other : List ℕ) → ReplyOver ring N r out → ReplyOver ring N s other → (r ≡ s) × (out ≡ other)
over_one named.Gaussian N r s out other h k = one_answer _ _ N r s out other h k
over_one named.Tenfold N r s out other h k = one_answer _ _ N r s out other h k

not_both : (text : List ℕ) (ring : NamedRing) (N : JobNumbers) (n p : ℕ) → Spells text ring N → Refused text n p → ⊥
not_both text ring N n p s r =
    let f = job_fits N s.in_range in
    job_accepted text N s.in_range f.spelt (omega (arith, ap length s.spelt, f.short)) s.spelt n p r

pub one_reply : OneReply
one_reply text r s out other (of_job ring N a h) (of_job sing M b k) =
    let same : M ≡ N = job_one text M N b.in_range.shaped a.in_range.shaped (job_fits M b.in_range).spelt (job_fits N a.in_range).spelt b.spelt a.spelt in
    let order : order_of sing ≡ order_of ring = sym b.order ∙ ap (λ (L : JobNumbers). L.order) same ∙ a.order in
    over_one ring N r s out other h (subst (λ x. ReplyOver x N s other) (same_ring sing ring order) (subst (λ L. ReplyOver sing L s other) same k))
one_reply text r s out other (of_job ring N a h) (of_text e n p b d) = absurd (not_both text ring N n p a b)
one_reply text r s out other (of_text e n p b d) (of_job ring N a h) = absurd (not_both text ring N n p a b)
one_reply text r s out other (of_text e n p a x) (of_text d m q b y) =
    let same = refused_one text n p m q a b in
    (e ∙ sym d, x ∙ ap₂ refused_line same.0 same.1 ∙ sym y)
