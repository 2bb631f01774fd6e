-- What a pair means: a list in place of array and count. Definitions only.
use Rattle.std.specs.Prelude.{Bool, List, ℕ, take, Float, Option as Given, Some, None}
use Rattle.std.proofs.Math.Option.{Option, none, some}
use Rattle.pair.specs.declared.ClusterPair.{ClusterPair}

-- the Rust's `ClusterPair`: dit centroid, dah centroid, start marks, and what is known of the lock
pub record Pair : Type 0 where
  pub lo : Float
  pub hi : Float
  pub init : List Float
  pub ready : Bool
  pub confirmed : Bool
  pub placeholder_is_lo : Bool
  pub lo_n : ℕ

-- ---- the view of the program's structs

-- what a program's option holds
abbrev pub held : {A : Type 0} → Given A → Option A
held (Some x) = some x
held None = none

abbrev pub view_pair : ClusterPair → Pair
view_pair p = record {
  lo = p.lo;
  hi = p.hi;
  init = take p.init_len p.init;
  ready = p.ready;
  confirmed = p.confirmed;
  placeholder_is_lo = p.placeholder_is_lo;
  lo_n = p.lo_n;
}

-- ---- one part changed

abbrev pub with_init : Pair → List Float → Pair
with_init p l = record p { init = l }

abbrev pub with_centroids : Pair → Float → Float → Pair
with_centroids p lo hi = record p { lo = lo; hi = hi }

abbrev pub with_confirmed : Pair → Bool → Pair
with_confirmed p b = record p { confirmed = b }

abbrev pub with_placeholder : Pair → Bool → Pair
with_placeholder p b = record p { placeholder_is_lo = b }
