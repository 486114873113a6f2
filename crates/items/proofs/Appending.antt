-- Items that are written one after the other.
use Prim.Native.Nat.{ℕ, ◌+◌, ◌*◌, ◌≤◌}
use mathlib.Core.Bool.{Bool, true}
use mathlib.Core.List.{List, [], ◌∷◌, ◌++◌, map, flat_map, map-append, append-nil, append_assoc}
use mathlib.Core.Path.{◌≡◌, refl, sym, ap, ◌∙◌}
use native.Mathlib.Nat.{add-zero}
use native.Mathlib.Omega.{arith}
use lib.ListN.{length, length-append, length-map}
use Rattle.rules.specs.Items.{Item, head_of}
use Rattle.items.specs.Writing.{Room, key_words, Items}
use Rattle.items.proofs.Putting.{put_none, put_length, put_append}

-- two words an item
pub keys_length : (is : List Item) → length (flat_map key_words is) ≡ 2 * length is
unfolding flat_map
keys_length [] = refl
keys_length (i ∷ is) = omega (arith, keys_length is)

keys_append : (xs ys : List Item) → flat_map key_words (xs ++ ys) ≡ flat_map key_words xs ++ flat_map key_words ys
unfolding flat_map
keys_append [] ys = refl
keys_append (x ∷ xs) ys = ap (λ (l : List ℕ). key_words x ++ l) (keys_append xs ys)

pub items_none : (w : Bool) (from : ℕ) (heads keys : List ℕ) → Items w [] from heads keys heads keys from
unfolding flat_map
items_none w from heads keys = record { next = sym (add-zero from); heads = put_none w from heads; keys = put_none w (2 * from) keys }

module _ {w : Bool} {from : ℕ} {heads₀ keys₀ : List ℕ} where
  -- fewer items have room too
  pub room_less : {m n : ℕ} → n ≤ m → Room w m from heads₀ keys₀ → Room w n from heads₀ keys₀
  room_less h r =
      record {
        heads_fit = λ e. omega (arith, r.heads_fit e);
        keys_fit = λ e. omega (arith, r.keys_fit e);
        small = omega (arith, r.small);
      }

  module _ {xs : List Item} (room : Room w (length xs) from heads₀ keys₀) {heads₁ keys₁ : List ℕ} {r : ℕ}
      (s : Items w xs from heads₀ keys₀ heads₁ keys₁ r) where
    heads_fit : w ≡ true → from + length (map head_of xs) ≤ length heads₀
    heads_fit e = rw length-map (room.heads_fit e)

    keys_fit : w ≡ true → 2 * from + length (flat_map key_words xs) ≤ length keys₀
    keys_fit e = omega (arith, room.keys_fit e, keys_length xs)

    -- the outputs keep their lengths
    pub heads_kept : length heads₁ ≡ length heads₀
    heads_kept = put_length w heads_fit s.heads

    pub keys_kept : length keys₁ ≡ length keys₀
    keys_kept = put_length w keys_fit s.keys

    pub items_append : {ys : List Item} {heads₂ keys₂ : List ℕ} {q : ℕ} → Items w ys r heads₁ keys₁ heads₂ keys₂ q
        → Items w (xs ++ ys) from heads₀ keys₀ heads₂ keys₂ q
    items_append {ys} t =
        let heads_at : r ≡ from + length (map head_of xs) = rw length-map s.next in
        let keys_at : 2 * r ≡ 2 * from + length (flat_map key_words xs) = omega (arith, s.next, keys_length xs) in
        record {
          next = rw length-append (omega (arith, s.next, t.next));
          heads = rw map-append (put_append w heads_fit s.heads (rw heads_at at t.heads));
          keys = rw (keys_append xs ys) (put_append w keys_fit s.keys (rw keys_at at t.keys));
        }

-- Of all items those done are written, and those coming are left.
pub record Going (w : Bool) (all coming : List Item) (from : ℕ) (heads₀ keys₀ heads₁ keys₁ : List ℕ) (at : ℕ) : Type 0 where
  pub done : List Item
  pub whole : done ++ coming ≡ all
  pub items : Items w done from heads₀ keys₀ heads₁ keys₁ at

pub going_start : (w : Bool) (all : List Item) (from : ℕ) (heads keys : List ℕ) → Going w all all from heads keys heads keys from
going_start w all from heads keys = record { done = []; whole = refl; items = items_none w from heads keys }

module _ {w : Bool} {all coming : List Item} {from : ℕ} {heads₀ keys₀ heads₁ keys₁ : List ℕ} {at : ℕ} (room : Room w (length all) from heads₀ keys₀)
    (g : Going w all coming from heads₀ keys₀ heads₁ keys₁ at) where
  count : length g.done + length coming ≡ length all
  count = sym (length-append g.done coming) ∙ ap length g.whole

  so_far : Room w (length g.done) from heads₀ keys₀
  so_far = room_less (omega (arith, count)) room

  pub going_heads : length heads₁ ≡ length heads₀
  going_heads = heads_kept so_far g.items

  pub going_keys : length keys₁ ≡ length keys₀
  going_keys = keys_kept so_far g.items

  -- those coming have room
  pub going_left : Room w (length coming) at heads₁ keys₁
  going_left =
      record {
        heads_fit = λ e. omega (arith, room.heads_fit e, count, g.items.next, going_heads);
        keys_fit = λ e. omega (arith, room.keys_fit e, count, g.items.next, going_keys);
        small = omega (arith, room.small, count, g.items.next);
      }

  pub going_end : {heads₂ keys₂ : List ℕ} {r : ℕ} → Items w coming at heads₁ keys₁ heads₂ keys₂ r → Items w all from heads₀ keys₀ heads₂ keys₂ r
  going_end s = rw g.whole at (items_append so_far g.items s)

  pub going_done : coming ≡ [] → Items w all from heads₀ keys₀ heads₁ keys₁ at
  going_done none = let e : g.done ≡ all = sym (append-nil g.done) ∙ (rw none at g.whole) in rw e at g.items

  -- the first of those coming
  module _ (xs ys : List Item) (is : coming ≡ xs ++ ys) where
    pub going_room : Room w (length xs) at heads₁ keys₁
    going_room = room_less (let l : length coming ≡ length xs + length ys = ap length is ∙ length-append xs ys in omega arith) going_left

    pub going_more : {heads₂ keys₂ : List ℕ} {r : ℕ} → Items w xs at heads₁ keys₁ heads₂ keys₂ r → Going w all ys from heads₀ keys₀ heads₂ keys₂ r
    going_more s =
        record {
          done = g.done ++ xs;
          whole = append_assoc g.done xs ys ∙ ap (λ (l : List Item). g.done ++ l) (sym is) ∙ g.whole;
          items = items_append so_far g.items s;
        }
