-- What is lent, step by step.
use Prim.Native.Nat.{ℕ}
use mathlib.Core.List.{List}
use mathlib.Core.Path.{◌≡◌, refl, ◌∙◌}
use borrow.Author.Tests.{eq-eqb, ne_eqb}
use lib.ListN.{length}
use Rattle.replayed.specs.Differences.{others}
use Rattle.replay_text.specs.Numbers.{ListRead, list_at, most_wide, most_narrow}
use Rattle.replay_text.specs.declared.Asked.{Asked}
use Rattle.replay_text.specs.declared.Cursor.{Cursor}
use Rattle.replay_text.specs.declared.Listed.{Listed}
use Rattle.replay_calls.specs.Outcomes.{left}
use Rattle.replay_lent.specs.Lent.{proof_read, lists_at, Loaded, given_to, lent, Cut}

-- the four lists, one after another
pub loaded_is : (text : List ℕ) (p : Cursor) (s₀ s₁ a₀ a₁ b₀ b₁ c₀ c₁ d₀ d₁ : List ℕ) (rs ra rb rc rd : Listed)
    → ListRead (list_at most_wide text (length s₀) p) s₀ rs s₁
    → ListRead (list_at most_wide text (length a₀) rs.next) a₀ ra a₁
    → ListRead (list_at most_wide text (length b₀) ra.next) b₀ rb b₁
    → ListRead (list_at most_narrow text (length c₀) rb.next) c₀ rc c₁
    → ListRead (list_at most_narrow text (length d₀) rc.next) d₀ rd d₁
    → Loaded (lists_at text p (length s₀) (length a₀) (length b₀) (length c₀) (length d₀)) a₀ b₀ c₀ d₀ a₁ b₁ c₁ d₁
unfolding lists_at
loaded_is text p s₀ s₁ a₀ a₁ b₀ b₁ c₀ c₁ d₀ d₁ rs ra rb rc rd hs ha hb hc hd =
    record {
      a = ha.out ∙ rw hs.next;
      b = hb.out ∙ rw (ha.next, hs.next);
      c = hc.out ∙ rw (hb.next, ha.next, hs.next);
      d = hd.out ∙ rw (hc.next, hb.next, ha.next, hs.next);
    }

module _ (text : List ℕ) (q : Asked) (s a₀ b₀ c₀ d₀ a₁ b₁ c₁ d₁ : List ℕ) (cut : Cut q s a₀ b₀ c₀ d₀) where
  -- what is given to proof read, and to any other call
  pub given_lists : q.code ≡ proof_read
      → Loaded (lists_at text q.next (length s) (length a₀) (length b₀) (length c₀) (length d₀)) a₀ b₀ c₀ d₀ a₁ b₁ c₁ d₁
      → Loaded (given_to text q) a₀ b₀ c₀ d₀ a₁ b₁ c₁ d₁
  unfolding given_to
  given_lists e l =
      rw (eq-eqb _ _ e) (rw (cut.said_room_lem, cut.a_room, cut.b_room, cut.c_room, cut.d_room) at l)

pub given_none : (text : List ℕ) (q : Asked) (a b c d : List ℕ) → (q.code ≡ proof_read → ⊥) → Loaded (given_to text q) a b c d a b c d
unfolding given_to
given_none text q a b c d e = rw (ne_eqb _ _ e) (record { a = refl; b = refl; c = refl; d = refl })

-- what is lent, from what the arrays were filled with and given
pub lent_is : (text : List ℕ) (q : Asked) (s s₁ s₂ a₀ a₁ b₀ b₁ c₀ c₁ d₀ d₁ a₂ b₂ c₂ d₂ e₀ e₁ w₀ w₁ : List ℕ)
    → Cut q s a₀ b₀ c₀ d₀ → length e₀ ≡ q.e → length w₀ ≡ q.work
    → length s₁ ≡ length s → s₂ ≡ others 0 (length s₁)
    → a₁ ≡ others 0 (length a₀) → b₁ ≡ others 0 (length b₀) → c₁ ≡ others 0 (length c₀) → d₁ ≡ others 0 (length d₀)
    → e₁ ≡ others 0 (length e₀) → w₁ ≡ others 0 (length w₀)
    → Loaded (given_to text q) a₁ b₁ c₁ d₁ a₂ b₂ c₂ d₂
    → left s₂ a₂ b₂ c₂ d₂ e₁ w₁ ≡ lent text q
unfolding lent
lent_is text q s s₁ s₂ a₀ a₁ b₀ b₁ c₀ c₁ d₀ d₁ a₂ b₂ c₂ d₂ e₀ e₁ w₀ w₁ cut he hw ks es ea eb ec ed ee ew l =
    rw (l.a, l.b, l.c, l.d, es, ea, eb, ec, ed, ee, ew, ks, cut.said_room_lem, cut.a_room, cut.b_room, cut.c_room, cut.d_room, he, hw)
