-- What follows where a definition and a program agree.
use mathlib.Core.Option.{Option, none, some}
use mathlib.Core.Path.{◌≡◌, refl}
use Rattle.laws.specs.Parsed.{Agrees}

module _ {A B : Type 0} (P : A → B → Type 0) where
  -- the program finds something: so does the definition
  pub agrees_some : (o : Option A) (b : B) → Agrees P o (some b) → (a : A) × (o ≡ some a) × P a b
  unfolding Agrees
  agrees_some none b h = absurd h
  agrees_some (some a) b h = (a, refl, h)

  -- it finds nothing
  pub agrees_none : (o : Option A) → Agrees P o none → o ≡ none
  unfolding Agrees
  agrees_none none h = refl
  agrees_none (some a) h = absurd h

  -- the definition finds something: so does the program
  pub agrees_found : (o : Option A) (r : Option B) (a : A) → o ≡ some a → Agrees P o r → (b : B) × P a b
  unfolding Agrees
  agrees_found o r a e h = found r (rw e at h)
    where
      found : (r : Option B) → Agrees P (some a) r → (b : B) × P a b
      found none h = absurd h
      found (some b) h = (b, h)

  -- and back
  pub both_some : {o : Option A} (a : A) {b : B} → o ≡ some a → P a b → Agrees P o (some b)
  unfolding Agrees
  both_some a e p = rw e p

  pub both_none : {o : Option A} → o ≡ none → Agrees P o none
  unfolding Agrees
  both_none e = rw e tt
