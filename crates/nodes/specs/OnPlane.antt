-- Which placements the formulas can make with no value on the way off the plane: tests that compute.
use Rattle.std.specs.Prelude.{ℕ, Bool, true, cond, ◌&&◌, List, [], ◌∷◌, ℤ, nat_le, unsigned_abs}
use Rattle.exact.specs.Cyclotomic.{Cyclotomic, power}
use Rattle.exact.specs.JobNumbers.{Step}
use Rattle.rings.specs.Plane.{plane_bound}
use Rattle.chains.specs.Books.{Book, Placement, label_at, tile_at}
use Rattle.chains.specs.Edges.{along}
use Rattle.chains.specs.Placements.{image, stretched}

-- all coefficients are at most s in size
unfoldable pub small : ℕ → List ℤ → Bool
small s [] = true
small s (c ∷ cs) = nat_le (unsigned_abs c) s && small s cs

module _ (E : Cyclotomic) where
  unfoldable pub on_plane : E.Elem → Bool
  on_plane x = small plane_bound (E.list x)

  -- a point, mirrored or not, then turned, then moved to the place
  unfoldable pub kept_image : Placement E → E.Elem → Bool
  kept_image p z = on_plane (cond p.mirrored (E.conj z) z) && on_plane (E.mul (power E p.turn) (cond p.mirrored (E.conj z) z)) && on_plane (image E p z)

  module _ (B : Book E) where
    -- a child: its parent's place multiplied by F, and then its offset, brought there as a point is
    unfoldable pub kept_child : Placement E → Placement E → Bool
    kept_child p c = on_plane (E.mul B.factor p.place) && kept_image (stretched E B p) c.place

    -- label e turned into direction j, then added to q
    unfoldable pub kept_along : ℕ → ℕ → E.Elem → Bool
    kept_along e j q = on_plane (E.mul (power E j) (label_at B e).length) && on_plane (along E B e j q)

    -- the corners that steps from q come to, each brought by a placement
    unfoldable pub kept_corners_from : Placement E → List Step → E.Elem → Bool
    kept_corners_from p [] q = true
    kept_corners_from p (s ∷ ss) q = kept_along s.label s.direction q && kept_image p (along E B s.label s.direction q) && kept_corners_from p ss (along E B s.label s.direction q)

    -- a placed tile's own corners
    unfoldable pub kept_corners : Placement E → Bool
    kept_corners p = kept_corners_from p (tile_at B p.tile).outline E.zero
