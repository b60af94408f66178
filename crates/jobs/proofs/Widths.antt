-- The numbers of a job in range are short, and so is its text.
use Rattle.std.proofs.Common.{◌≡◌, ℕ, suc, ◌+◌, ◌*◌, ◌<◌, ◌≤◌, Bool, true, false, List, [], ◌∷◌, ◌++◌, map, length, ℤ, pos, negsuc, nat_abs, ap, ◌∙◌, mul-suc, arith}
use Rattle.std.specs.List.{flat_map, AllByRecursion}
use Rattle.std.proofs.lemmas.Fmt.{length-decimal-le}
use Rattle.std.proofs.ByRecursion.{All-append, All-weaker}
use Rattle.std.proofs.lemmas.Grind.{flat_map-append}
use Rattle.std.proofs.lemmas.List.{length-append, length-map}
use Rattle.exact.specs.JobNumbers.{JobNumbers, LabelNumbers, TileNumbers, PlacedNumbers, Part, Step}
use Rattle.lines.specs.Letters.{letter_R, letter_I, letter_D}
use Rattle.lines.specs.Lines.{Line, line, text, spelt, WellSpelt}
use Rattle.lines.specs.Spelling.{Short, word}
use Rattle.jobs.specs.Limits.{Ring, most_bytes}
use Rattle.jobs.specs.Ranges.{Coefficient, PartFits, StepFits, PlacedFits, SeedFits, OutlineFits, TileFits, LabelFits, ChildrenNamed, InRange, kinds_of}
use Rattle.jobs.specs.Spelled.{mark, part_numbers, step_numbers, placed_numbers, label_line, subdivision_line, outline_line, child_line, seed_line, tile_lines, lines_of, spelled}
use Rattle.jobs.proofs.Series.{length_parts, length_steps}

-- at most two digits
abbrev Tiny : ℤ → Type 0
Tiny z = nat_abs z < 100

length_word : (z : ℤ) → Tiny z → length (word z) ≤ 4
length_word (pos n) t = let h = length-decimal-le 2 n (omega arith) (omega arith) (omega arith) in omega arith
length_word (negsuc n) t = let h = length-decimal-le 2 (suc n) (omega arith) (omega arith) (omega arith) in omega arith

length_words : (zs : List ℤ) → AllByRecursion Tiny zs → length (flat_map word zs) ≤ 4 * length zs
length_words [] a = omega arith
length_words (z ∷ zs) a =
    let h = length_word z a.0 in
    let k = length_words zs a.1 in
    let n = length-append (word z) (flat_map word zs) in
    omega arith

-- a line of at most k numbers, all of them tiny
pub record Within (k : ℕ) (l : Line) : Type 0 where
  pub tiny : AllByRecursion Tiny l.numbers
  pub few : length l.numbers ≤ k

length_line : (k : ℕ) (l : Line) → Within k l → length (spelt l.letter l.numbers) ≤ 2 + 4 * k
length_line k l w =
    let h = length_words l.numbers w.tiny in
    let n = length-append (flat_map word l.numbers) (10 ∷ []) in
    omega (arith, w.few)

length_text : (ls ms : List Line) → length (text (ls ++ ms)) ≡ length (text ls) + length (text ms)
length_text ls ms = ap length (flat_map-append (λ (l : Line). spelt l.letter l.numbers) ls ms) ∙ length-append (text ls) (text ms)

length_all : (k b : ℕ) (ls : List Line) → 2 + 4 * k ≤ b → AllByRecursion (Within k) ls → length (text ls) ≤ b * length ls
length_all k b [] h a = omega arith
length_all k b (l ∷ ls) h a =
    let n = length-append (spelt l.letter l.numbers) (text ls) in
    let m = length_line k l a.0 in
    let r = length_all k b ls h a.1 in
    let e : b * length (l ∷ ls) ≡ b * length ls + b = mul-suc b (length ls) in
    omega arith

-- the numbers of each kind of line
tiny_mark : (b : Bool) → Tiny (mark b)
tiny_mark true = omega arith
tiny_mark false = omega arith

tiny_element : (zs : List ℤ) → AllByRecursion Coefficient zs → AllByRecursion Tiny zs
tiny_element zs a = All-weaker Coefficient Tiny (λ z h. omega arith) zs a

tiny_parts : (ks : List Bool) (ps : List Part) → length ks ≤ 8 → AllByRecursion (PartFits ks) ps → AllByRecursion Tiny (flat_map part_numbers ps)
tiny_parts ks [] h a = tt
tiny_parts ks (p ∷ ps) h a = (omega (arith, a.0.0), (tiny_mark p.forward, tiny_parts ks ps h a.1))

tiny_steps : (ks : List Bool) (n : ℕ) (ss : List Step) → length ks ≤ 8 → n ≤ 10 → AllByRecursion (StepFits ks n) ss → AllByRecursion Tiny (flat_map step_numbers ss)
tiny_steps ks n [] h m a = tt
tiny_steps ks n (s ∷ ss) h m a = (omega (arith, a.0.0.0), (tiny_mark s.forward, (omega (arith, a.0.1), tiny_steps ks n ss h m a.1)))

order_few : (n d : ℕ) → Ring n d → n ≤ 10
order_few n d r = omega arith

rank_few : (n d : ℕ) → Ring n d → d ≤ 4
rank_few n d r = omega arith

placed_within : (n d : ℕ) (p : PlacedNumbers) → Ring n d → p.tile < 8 → PlacedFits n d p → AllByRecursion Tiny (placed_numbers p) × (length (placed_numbers p) ≤ 7)
placed_within n d p r t f =
    let m = order_few n d r in
    let k = rank_few n d r in
    ((omega arith, (omega (arith, f.0), (tiny_mark p.mirrored, tiny_element p.place f.1.1))), omega (arith, f.1.0))

children_within : (n d m : ℕ) (cs : List PlacedNumbers) → Ring n d → m ≤ 8 → AllByRecursion (PlacedFits n d) cs → AllByRecursion (λ (p : PlacedNumbers). p.tile < m) cs → AllByRecursion (Within 7) (map child_line cs)
children_within n d m [] r l a b = tt
children_within n d m (c ∷ cs) r l a b = let w = placed_within n d c r (omega (arith, b.0)) a.0 in (record { tiny = w.0; few = w.1 }, children_within n d m cs r l a.1 b.1)

seeds_within : (n d m : ℕ) (cs : List PlacedNumbers) → Ring n d → m ≤ 8 → AllByRecursion (SeedFits m n d) cs → AllByRecursion (Within 7) (map seed_line cs)
seeds_within n d m [] r l a = tt
seeds_within n d m (c ∷ cs) r l a = let w = placed_within n d c r (omega (arith, a.0.0)) a.0.1 in (record { tiny = w.0; few = w.1 }, seeds_within n d m cs r l a.1)

outline_within : (ks : List Bool) (n : ℕ) (ss : List Step) → length ks ≤ 8 → n ≤ 10 → OutlineFits ks n ss → Within 36 (outline_line ss)
outline_within ks n ss h m f = record { tiny = tiny_steps ks n ss h m f.2; few = (let e = length_steps ss in omega (arith, f.1)) }

labels_within : (ks : List Bool) (n d : ℕ) (ls : List LabelNumbers) → Ring n d → AllByRecursion (LabelFits ks d) ls → AllByRecursion (Within 5) (map label_line ls)
labels_within ks n d [] r a = tt
labels_within ks n d (l ∷ ls) r a = let k = rank_few n d r in (record { tiny = (tiny_mark l.arrowed, tiny_element l.length a.0.0.1); few = omega (arith, a.0.0.0) }, labels_within ks n d ls r a.1)

subdivisions_within : (ks : List Bool) (d : ℕ) (ls : List LabelNumbers) → length ks ≤ 8 → AllByRecursion (LabelFits ks d) ls → AllByRecursion (Within 16) (map (λ (l : LabelNumbers). subdivision_line l.subdivision) ls)
subdivisions_within ks d [] h a = tt
subdivisions_within ks d (l ∷ ls) h a = (record { tiny = tiny_parts ks l.subdivision h a.0.1.2; few = (let e = length_parts l.subdivision in omega (arith, a.0.1.1)) }, subdivisions_within ks d ls h a.1)

-- a tile's lines
pub record TileWithin (ls : List Line) : Type 0 where
  pub lines : AllByRecursion (Within 36) ls
  pub bytes : length (text ls) ≤ 626

loose : (l : Line) → Within 7 l → Within 36 l
loose l w = record { tiny = w.tiny; few = omega (arith, w.few) }

tile_within : (ks : List Bool) (n d m : ℕ) (t : TileNumbers) → length ks ≤ 8 → m ≤ 8 → Ring n d → TileFits ks n d t → ChildrenNamed m t → TileWithin (tile_lines t)
tile_within ks n d m t h l r f c =
    let o = outline_within ks n t.outline h (order_few n d r) f.0 in
    let w = children_within n d m t.children r l f.1.2 c in
    record {
      lines = (o, All-weaker (Within 7) (Within 36) loose (map child_line t.children) w);
      bytes =
          (let a = length_line 36 (outline_line t.outline) o in
          let b = length_all 7 30 (map child_line t.children) (omega arith) w in
          let k = length-map t.children child_line in
          let e = length-append (spelt (outline_line t.outline).letter (outline_line t.outline).numbers) (text (map child_line t.children)) in
          omega (arith, f.1.1));
    }

pub record TilesWithin (ls : List Line) (n : ℕ) : Type 0 where
  pub lines : AllByRecursion (Within 36) ls
  pub bytes : length (text ls) ≤ 626 * n

tiles_within : (ks : List Bool) (n d m : ℕ) (ts : List TileNumbers) → length ks ≤ 8 → m ≤ 8 → Ring n d → AllByRecursion (TileFits ks n d) ts → AllByRecursion (ChildrenNamed m) ts → TilesWithin (flat_map tile_lines ts) (length ts)
tiles_within ks n d m [] h l r a c = record { lines = tt; bytes = omega arith }
tiles_within ks n d m (t ∷ ts) h l r a c =
    let u = tile_within ks n d m t h l r a.0 c.0 in
    let v = tiles_within ks n d m ts h l r a.1 c.1 in
    record {
      lines = All-append (Within 36) (tile_lines t) (flat_map tile_lines ts) u.lines v.lines;
      bytes = (let e = length_text (tile_lines t) (flat_map tile_lines ts) in omega (arith, u.bytes, v.bytes));
    }

pub record Fitting (j : JobNumbers) : Type 0 where
  pub spelt : AllByRecursion WellSpelt (lines_of j)
  pub short : length (spelled j) ≤ most_bytes

short_of : (k : ℕ) (l : Line) → Within k l → WellSpelt l
short_of k l w = All-weaker Tiny Short (λ z h. omega arith) l.numbers w.tiny

pub job_fits : (j : JobNumbers) → InRange j → Fitting j
job_fits j i =
    let s = i.shaped in
    let ks = kinds_of j.labels in
    let nk = length-map j.labels (λ (l : LabelNumbers). l.arrowed) in
    let hk : length ks ≤ 8 = omega (arith, s.few_labels) in
    let r = s.ring in
    let wr : Within 1 (line letter_R (pos j.order ∷ [])) = record { tiny = ((let m = order_few j.order j.rank r in omega arith), tt); few = omega arith } in
    let wi : Within 4 (line letter_I j.factor) = record { tiny = tiny_element j.factor s.factor.1; few = (let m = rank_few j.order j.rank r in omega (arith, s.factor.0)) } in
    let wl = labels_within ks j.order j.rank j.labels r s.labels in
    let ws = subdivisions_within ks j.rank j.labels hk s.labels in
    let wt = tiles_within ks j.order j.rank (length j.tiles) j.tiles hk s.few_tiles r s.tiles i.named in
    let wd : Within 1 (line letter_D (pos j.depth ∷ [])) = record { tiny = (omega (arith, s.depth), tt); few = omega arith } in
    let wp = seeds_within j.order j.rank (length j.tiles) j.seeds r s.few_tiles s.seeds in
    let tail = line letter_D (pos j.depth ∷ []) ∷ map seed_line j.seeds in
    let subs = map (λ (l : LabelNumbers). subdivision_line l.subdivision) j.labels in
    record {
      spelt = (
        short_of 1 _ wr,
        (
          short_of 4 _ wi,
          All-append WellSpelt (map label_line j.labels) (subs ++ (flat_map tile_lines j.tiles ++ tail)) (All-weaker (Within 5) WellSpelt (short_of 5) (map label_line j.labels) wl)
              (All-append WellSpelt subs (flat_map tile_lines j.tiles ++ tail) (All-weaker (Within 16) WellSpelt (short_of 16) subs ws)
              (All-append WellSpelt (flat_map tile_lines j.tiles) tail (All-weaker (Within 36) WellSpelt (short_of 36) (flat_map tile_lines j.tiles) wt.lines)
              (short_of 1 _ wd, All-weaker (Within 7) WellSpelt (short_of 7) (map seed_line j.seeds) wp))),
        ),
      );
      short = total (length (spelt letter_R (pos j.order ∷ []))) (length (spelt letter_I j.factor)) (length (text (map label_line j.labels))) (length (text subs)) (length (text (flat_map tile_lines j.tiles))) (length (spelt letter_D (pos j.depth ∷ []))) (length (text (map seed_line j.seeds)))
          (length (spelled j))
          (length_line 1 _ wr) (length_line 4 _ wi)
          (let a = length_all 5 22 (map label_line j.labels) (omega arith) wl in let b = length-map j.labels label_line in omega (arith, s.few_labels))
          (let a = length_all 16 66 subs (omega arith) ws in let b = length-map j.labels (λ (l : LabelNumbers). subdivision_line l.subdivision) in omega (arith, s.few_labels))
          (omega (arith, wt.bytes, s.few_tiles))
          (length_line 1 _ wd)
          (let a = length_all 7 30 (map seed_line j.seeds) (omega arith) wp in let b = length-map j.seeds seed_line in omega (arith, s.few_seeds))
          (let a = length-append (spelt letter_R (pos j.order ∷ [])) (text (line letter_I j.factor ∷ (map label_line j.labels ++ (subs ++ (flat_map tile_lines j.tiles ++ tail))))) in
          let b = length-append (spelt letter_I j.factor) (text (map label_line j.labels ++ (subs ++ (flat_map tile_lines j.tiles ++ tail)))) in
          let c = length_text (map label_line j.labels) (subs ++ (flat_map tile_lines j.tiles ++ tail)) in
          let d = length_text subs (flat_map tile_lines j.tiles ++ tail) in
          let e = length_text (flat_map tile_lines j.tiles) tail in
          let f = length-append (spelt letter_D (pos j.depth ∷ [])) (text (map seed_line j.seeds)) in
          a ∙ ap (λ x. length (spelt letter_R (pos j.order ∷ [])) + x) (b ∙ ap (λ x. length (spelt letter_I j.factor) + x) (c ∙ ap (λ x. length (text (map label_line j.labels)) + x) (d ∙ ap (λ x. length (text subs) + x) (e ∙ ap (λ x. length (text (flat_map tile_lines j.tiles)) + x) f)))));
    }
  where
    total : (r i l s t d p w : ℕ) → r ≤ 6 → i ≤ 18 → l ≤ 176 → s ≤ 528 → t ≤ 5008 → d ≤ 6 → p ≤ 480 → w ≡ r + (i + (l + (s + (t + (d + p))))) → w ≤ most_bytes
    total r i l s t d p w a b c e f g h q = omega arith
