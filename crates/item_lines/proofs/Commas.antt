-- Keys by commas: one key more, the keys of a word, and all keys as a text.
use Prim.Native.Nat.{ℕ, ◌+◌, ◌≤◌}
use mathlib.Core.Bool.{Bool, true, false}
use mathlib.Core.List.{List, [], ◌∷◌, ◌++◌, append_assoc, append-nil}
use mathlib.Core.Path.{◌≡◌, refl, sym, ap, ◌∙◌}
use native.Mathlib.Numerals.{add-one}
use native.Mathlib.Omega.{arith}
use lib.ListN.{take}
use Rattle.line_text.specs.Text.{decimal, Adds}
use Rattle.item_lines.specs.Items.{behind_commas, commas, bit_key, word_keys, Keyed}

true_false : true ≡ false → ⊥
true_false e =
    let z : ◌≡◌ {A = ℕ} 0 1 = cc in
    omega arith

behind_snoc : (ks : List ℕ) (k : ℕ) → behind_commas (ks ++ (k ∷ [])) ≡ behind_commas ks ++ 44 ∷ decimal k
unfolding behind_commas
behind_snoc [] k = ap (λ l. 44 ∷ l) (append-nil (decimal k))
behind_snoc (x ∷ ks) k = rw (behind_snoc ks k, append_assoc)

module _ {m at r : ℕ} {o q : List ℕ} (t : List ℕ) (k : ℕ) where
  pub key_first : (ks : List ℕ) (none : Bool) → none ≡ true → Keyed t ks at none o → Adds m (decimal k) at o r q → Keyed t (ks ++ (k ∷ [])) r false q
  unfolding commas behind_commas
  key_first [] none e h a =
      record { text = a.text ∙ ap (λ l. l ++ decimal k) (h.text ∙ append-nil t) ∙ ap (λ l. t ++ l) (sym (append-nil (decimal k))); first = refl }
  key_first (x ∷ ks) none e h a = absurd (true_false (sym e ∙ h.first))

  pub key_next : (ks : List ℕ) (none : Bool) → none ≡ false → Keyed t ks at none o → Adds m (44 ∷ decimal k) at o r q → Keyed t (ks ++ (k ∷ [])) r false q
  unfolding commas
  key_next [] none e h a = absurd (true_false (sym h.first ∙ e))
  key_next (x ∷ ks) none e h a =
      record {
        text = a.text ∙ ap (λ l. l ++ 44 ∷ decimal k) h.text ∙ rw (behind_snoc ks k) (simp append_assoc);
        first = refl;
      }

pub keys_more : {t q : List ℕ} {r : ℕ} {none : Bool} (ks : List ℕ) (k word base : ℕ)
    → Keyed t ((ks ++ word_keys k word base) ++ bit_key k word base) r none q → Keyed t (ks ++ word_keys (k + 1) word base) r none q
unfolding word_keys
keys_more ks k word base h = rw add-one (rw append_assoc at h)

pub no_keys : (at : ℕ) (o : List ℕ) → Keyed (take at o) [] at true o
unfolding commas
no_keys at o = record { text = sym (append-nil (take at o)); first = refl }

-- all keys put, from none
pub adds_keys : {n at r : ℕ} {ks o q : List ℕ} {none : Bool} → r ≤ at + n → Keyed (take at o) ks r none q → Adds n (commas ks) at o r q
adds_keys b h = record { text = h.text; grown = b }
