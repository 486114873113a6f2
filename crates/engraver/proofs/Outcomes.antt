-- What writing a staff comes to, by the room of the outputs.
use Prim.Native.Nat.{ℕ, ◌*◌, ◌/◌, ◌<◌, ◌≤◌}
use mathlib.Core.Bool.{Bool, true, false, cond, not, ◌&&◌, and-eq-true_iff, false≢true}
use mathlib.Core.List.{List}
use mathlib.Core.Logic.{inl, inr}
use mathlib.Core.Path.{◌≡◌, refl, ap, ◌∙◌}
use native.Mathlib.Omega.{arith}
use borrow.Author.Tests.{ltb-false, lt-ltb, le-ltb, lt-leb, le-leb}
use lib.Dec.{ltb, leb}
use lib.ListN.{length, length-map}
use Rattle.rules.specs.Bars.{Bar}
use Rattle.rules.specs.Items.{Staff, head_of, items_of}
use Rattle.rules.specs.Staff.{staff_of}
use Rattle.rules.specs.Refusals.{Result, refused, given, unless}
use Rattle.rules.specs.Calls.{StaffSize, EngravedLists}
use Rattle.rules.specs.Voices.{Chord}
use Rattle.laws.proofs.Order.{by_le}
use Rattle.items.proofs.Appending.{keys_length}
use Rattle.staff.specs.Staffs.{StaffRoom, StaffPut}
use Rattle.staff.specs.declared.Engraving.{Engraving}
use Rattle.laws.proofs.Leftovers.{leftovers_length}
use Rattle.staff.proofs.StaffSizes.{counts_length}
use Rattle.engraver.specs.Sizes.{size_by, lists_by, room_for, outcome, Outputs}

-- nothing is asked of outputs that are not written
pub no_room : (st : Staff) (ls counts heads keys leftovers : List ℕ) → StaffRoom false st ls counts heads keys leftovers
no_room st ls counts heads keys leftovers =
    record {
      counts_fit = λ e. absurd (false≢true e);
      heads_fit = λ e. absurd (false≢true e);
      keys_fit = λ e. absurd (false≢true e);
      leftovers_fit = λ e. absurd (false≢true e);
    }

-- n numbers are too long for their output just where its test, that m is at most r, fails
output_test : (m r n room : ℕ) → (m ≤ r → n ≤ room) → (r < m → room < n) → ltb room n ≡ not (leb m r)
output_test m r n room fit short =
    elim (by_le m r) [ inl h ↦ rw (le-leb m r h, le-ltb room n (fit h)) | inr h ↦ rw (lt-leb m r h, lt-ltb room n (short h)) ]

-- four numbers a bar
fours_test : (m n room : ℕ) → n ≡ 4 * m → ltb room n ≡ not (leb m (room / 4))
fours_test m n room many = output_test m (room / 4) n room (λ h. omega arith) (λ h. omega arith)

-- refusals of one number, each where its test fails
module _ {A : Type 0} (x y : A) where
  four_tests : (s t u v : Bool) → cond (not s) y (cond (not t) y (cond (not u) y (cond (not v) y x))) ≡ cond (s && (t && (u && v))) x y
  four_tests false t u v = refl
  four_tests true false u v = refl
  four_tests true true false v = refl
  four_tests true true true false = refl
  four_tests true true true true = refl

module _ (p : ℕ) (vs : List (List Chord)) (four : length vs ≡ 4) (bs : List Bar) (counts heads keys leftovers : List ℕ) where
  abbrev st : Staff
  st = staff_of p vs bs

  abbrev lists : EngravedLists
  lists = lists_by p bs vs

  abbrev size : StaffSize
  size = size_by p bs vs

  abbrev result : Result EngravedLists
  result = outcome lists (length counts) (length heads) (length keys) (length leftovers)

  abbrev fits : Bool
  fits = room_for size (length counts) (length heads) (length keys) (length leftovers)

  -- each output's test, and its refusal
  abbrev counts_fit : Bool
  counts_fit = leb (length bs) (length counts / 4)

  counts_test : ltb (length counts) (length lists.staff.counts) ≡ not counts_fit
  counts_test = fours_test (length bs) _ (length counts) (counts_length p vs four bs)

  abbrev heads_fit : Bool
  heads_fit = leb (length (items_of st)) (length heads)

  heads_test : ltb (length heads) (length lists.staff.heads) ≡ not heads_fit
  heads_test = rw (length-map (items_of st) head_of) (output_test (length (items_of st)) (length heads) _ (length heads) (λ h. h) (λ h. h))

  abbrev keys_fit : Bool
  keys_fit = leb (length (items_of st)) (length keys / 2)

  keys_test : ltb (length keys) (length lists.staff.keys) ≡ not keys_fit
  keys_test =
      let many = keys_length (items_of st) in
      output_test (length (items_of st)) (length keys / 2) _ (length keys) (λ h. omega arith) (λ h. omega arith)

  abbrev leftovers_fit : Bool
  leftovers_fit = leb (length bs) (length leftovers / 4)

  leftovers_test : ltb (length leftovers) (length lists.leftovers) ≡ not leftovers_fit
  leftovers_test = fours_test (length bs) _ (length leftovers) (leftovers_length p vs four bs)

  -- the four decide
  result_is : result ≡ cond fits (given lists) (refused 8)
  unfolding unless
  result_is =
      rw (counts_test, heads_test, keys_test, leftovers_test)
      (four_tests (given lists) (refused 8) counts_fit heads_fit keys_fit leftovers_fit)

  -- all say so: there is room
  pub has_room : fits ≡ true → StaffRoom true st lists.leftovers counts heads keys leftovers
  has_room e =
      let (c, e₁) = (and-eq-true_iff counts_fit _).0 e in
      let (h, e₂) = (and-eq-true_iff heads_fit _).0 e₁ in
      let (k, l) = (and-eq-true_iff keys_fit _).0 e₂ in
      record {
        counts_fit = λ _. ltb-false _ _ (counts_test ∙ ap not c);
        heads_fit = λ _. ltb-false _ _ (heads_test ∙ ap not h);
        keys_fit = λ _. ltb-false _ _ (keys_test ∙ ap not k);
        leftovers_fit = λ _. ltb-false _ _ (leftovers_test ∙ ap not l);
      }

  -- no room, and nothing written
  pub left_out : fits ≡ false → Outputs size result counts heads keys leftovers counts heads keys leftovers (refused 8)
  left_out e =
      let is : result ≡ refused 8 = (rw e at result_is) in
      record { answered = rw is; counts = rw is; heads = rw is; keys = rw is; leftovers = rw is }

  -- the staff is written
  pub written_out : {counts₁ heads₁ keys₁ leftovers₁ : List ℕ} {r : Engraving} {s : StaffSize} → fits ≡ true → s ≡ size
      → StaffPut true bs st lists.leftovers counts heads keys leftovers counts₁ heads₁ keys₁ leftovers₁ r
      → Outputs size result counts heads keys leftovers counts₁ heads₁ keys₁ leftovers₁ (given s)
  written_out e same put =
      let is : result ≡ given lists = (rw e at result_is) in
      record {
        answered = rw is (ap given same);
        counts = rw is put.counts.is;
        heads = rw is put.heads.is;
        keys = rw is put.keys.is;
        leftovers = rw is put.leftovers.is;
      }
