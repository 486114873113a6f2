-- Laws of the queues over plain lists: what leaves them as they are, a start put behind its queue, and a start taken from its front.
use Prim.Native.Nat.{ℕ, ◌+◌, ◌-◌, ◌*◌, ◌^◌, ◌≤◌, ◌<◌}
use mathlib.Core.Bool.{Bool, true}
use mathlib.Core.List.{List, [], ◌∷◌, ◌++◌, head?, cons≢nil}
use mathlib.Core.Logic.{⊎_elim}
use mathlib.Core.Path.{◌≡◌, refl, sym, ap, ◌∙◌}
use native.Mathlib.Omega.{arith}
use lib.ListN.{length, get_or, set, drop, length-append, length-set, get_or-append}
use lib.Seq.{get_or_at, get_or-set_same, get_or-set_other, get_or-drop, take-set-le}
use Rattle.rules.specs.Lists.{keep, All}
use Rattle.rules.specs.RawNotes.{NoteEvent, same_key, without_oldest}
use Rattle.laws.proofs.Order.{by_lt}
use Rattle.laws.proofs.Lists.{All-imp, All-all, All-append, All-both, keep_passes}
use Rattle.pairing.specs.Queues.{Grid, Empty, cell, put, at, Inside, no_start, node_link, node_tick, node_number, Run, none, one, Queues}
use Rattle.pairing.specs.Steps.{IsStart, FrontKept, Same, Noded, Wrote, Pushable, Pushed, Queued, Popped}
use Rattle.pairing.proofs.Grids.{by_place, put_here, put_there, put_grid}
use Rattle.pairing.proofs.Pending.{at_true, at_is, at_not, keep_more, keep_same, without_here, without_there, all_without, own}

-- ---- one queue
run_low : {ss : List NoteEvent} {w : List ℕ} {n t lo h : ℕ} {q : List NoteEvent} → Run ss w n t lo h q → Run ss w n t 0 h q
run_low (none e) = none e
run_low {h = h} (one d r) = one {lo = 0} {h = h} (record { above = omega arith; below = d.below; start = d.start; tail = d.tail }) r

-- a head or a link is 0 or leads to a start
run_head : {ss : List NoteEvent} {w : List ℕ} {n t lo h : ℕ} {q : List NoteEvent} → Run ss w n t lo h q → h ≤ length ss
run_head (none e) = omega arith
run_head (one d r) = d.below

-- a queue is empty exactly where its head is 0
run_zero : {ss : List NoteEvent} {w : List ℕ} {n t lo h : ℕ} → Run ss w n t lo h [] → h ≡ 0
run_zero (none e) = e

run_empty : {ss : List NoteEvent} {w : List ℕ} {n t lo h : ℕ} {q : List NoteEvent} → Run ss w n t lo h q → h ≡ 0 → q ≡ []
run_empty (none e) z = refl
run_empty (one d r) z = absurd (omega arith)

run_full : {ss : List NoteEvent} {w : List ℕ} {n t lo h : ℕ} {q : List NoteEvent} → Run ss w n t lo h q → (q ≡ [] → ⊥) → 0 < h
run_full (none e) z = absurd (z refl)
run_full (one d r) z = omega arith

-- the tail is at or behind the head, and what all starts of the queue have, its start has
pub record Tail (P : NoteEvent → Type 0) (ss : List NoteEvent) (t h : ℕ) : Type 0 where
  pub behind : h ≤ t
  pub below : t ≤ length ss
  pub has : P (get_or ss (t - 1) no_start)

run_tail : (P : NoteEvent → Type 0) {ss : List NoteEvent} {w : List ℕ} {n t lo h : ℕ} {s : NoteEvent} {q : List NoteEvent}
    → Run ss w n t lo h (s ∷ q) → All P (s ∷ q) → Tail P ss t h
run_tail P {ss} {w} {n} {t} {lo} {h} (one d (none e)) ps =
    let e : t ≡ h = d.tail refl in
    record { behind = omega arith; below = omega arith; has = rw (e, d.start) ps.0 }
run_tail P (one d (one f r)) ps =
    let rest = run_tail P (one f r) ps.1 in
    record { behind = omega arith; below = rest.below; has = rest.has }

-- ---- a queue is kept where its nodes keep their starts and links
module _ (ss ss' : List NoteEvent) (w w' : List ℕ) (n : ℕ) (P : NoteEvent → Type 0) (longer : length ss ≤ length ss')
    (same : (i : ℕ) → i < length ss → get_or ss' i no_start ≡ get_or ss i no_start)
    (links : (i : ℕ) → i < length ss → P (get_or ss i no_start) → node_link w' n i ≡ node_link w n i) where
  run_kept : {t lo h : ℕ} {q : List NoteEvent} → All P q → Run ss w n t lo h q → Run ss' w' n t lo h q
  run_kept ps (none e) = none e
  run_kept {h = h} ps (one d r) =
      one
      (record { above = d.above; below = omega arith; start = same (h - 1) (omega arith) ∙ d.start; tail = d.tail })
      (rw (links (h - 1) (omega arith) (rw d.start ps.0)) (run_kept ps.1 r))

-- ---- a start is put behind a queue
module _ (ss : List NoteEvent) (w' : List ℕ) (n m : ℕ) (x : NoteEvent) (count : length ss ≡ m) (fresh : node_link w' n m ≡ 0) where
  more : length (ss ++ (x ∷ [])) ≡ m + 1
  more = rw (length-append, count)

  -- an empty one
  run_new : (lo : ℕ) → lo ≤ m → Run (ss ++ (x ∷ [])) w' n (m + 1) lo (m + 1) (x ∷ [])
  run_new lo l =
      let p : m + 1 - 1 ≡ m = omega arith in
      one {lo = lo} {h = m + 1} {s = x}
      (record { above = omega arith; below = omega (arith, more); start = rw p (get_or_at ss x [] no_start m count); tail = λ _. refl })
      (none {h = node_link w' n (m + 1 - 1)} (rw p fresh))

  -- one whose tail is t
  module _ (w : List ℕ) (t : ℕ) (last : node_link w' n (t - 1) ≡ m + 1) (others : (i : ℕ) → i < m → (i ≡ t - 1 → ⊥) → node_link w' n i ≡ node_link w n i) where
    old : (i : ℕ) → i < length ss → get_or (ss ++ (x ∷ [])) i no_start ≡ get_or ss i no_start
    old i l = get_or-append ss (x ∷ []) no_start i l

    run_behind : {lo h : ℕ} {s : NoteEvent} {q : List NoteEvent} → Run ss w n t lo h (s ∷ q)
        → Run (ss ++ (x ∷ [])) w' n (m + 1) lo h ((s ∷ q) ++ (x ∷ []))
    run_behind {h = h} (one d (none e)) =
        let e : t ≡ h = d.tail refl in
        one {q = x ∷ []}
        (record { above = d.above; below = omega (arith, more); start = old (h - 1) (omega arith) ∙ d.start; tail = λ z. absurd (cons≢nil z) })
        (rw (← e, last) (run_new t (omega arith)))
    run_behind {h = h} {q = q} (one d (one f r)) =
        let rest = run_tail (λ _. Unit {0}) (one f r) (All-all (λ _. tt) q) in
        one {q = q ++ (x ∷ [])}
        (record { above = d.above; below = omega (arith, more); start = old (h - 1) (omega arith) ∙ d.start; tail = λ z. absurd (cons≢nil z) })
        (rw (others (h - 1) (omega arith) (λ z. absurd (omega arith))) (run_behind (one f r)))

-- ---- all queues: what lies outside the nodes may change
pub queues_kept : {h t : List (List ℕ)} {w w' : List ℕ} {n m : ℕ} {ps : List NoteEvent} → Same w w' n m → Queues h t w n m ps → Queues h t w' n m ps
queues_kept {w = w} {w' = w'} {n = n} {m = m} {ps = ps} e p =
    record {
      starts = p.starts;
      count = p.count;
      room = p.room;
      small = p.small;
      area = rw e.kept p.area;
      ticks = λ i l. e.ticks i l ∙ p.ticks i l;
      numbers = λ i l. e.numbers i l ∙ p.numbers i l;
      queue = λ c k lc lk.
          run_kept p.starts p.starts w w' n (λ y. at c k y ≡ true) (omega arith) (λ i l. refl) (λ i l _. e.links i (omega (arith, p.count)))
          (keep_passes (at c k) ps) (p.queue c k lc lk);
      inside = p.inside;
      heads = p.heads;
      tails = p.tails;
    }

-- what lies before the columns of the nodes may change
pub same_behind : {w w' : List ℕ} {n m : ℕ} → length w' ≡ length w → drop (4 * n) w' ≡ drop (4 * n) w → Same w w' n m
same_behind {w} {w'} {n} {m} l e =
    record {
      kept = l;
      links = λ i b. at_place i;
      ticks = λ i b. let q : 5 * n + i ≡ 4 * n + (n + i) = omega arith in rw q (at_place (n + i));
      numbers = λ i b. let q : 6 * n + i ≡ 4 * n + (2 * n + i) = omega arith in rw q (at_place (2 * n + i));
    }
  where
    at_place : (i : ℕ) → get_or w' (4 * n + i) 0 ≡ get_or w (4 * n + i) 0
    at_place i = sym (get_or-drop (4 * n) w' i 0) ∙ ap (λ (v : List ℕ). get_or v i 0) e ∙ get_or-drop (4 * n) w i 0

-- ---- node m is written
pub wrote : {w : List ℕ} {n m : ℕ} (t e : ℕ) → m < n → 16 * n ≤ length w
    → Wrote w (set (set (set w (4 * n + m) 0) (5 * n + m) t) (6 * n + m) e) n m t e
wrote {w} {n} {m} t e l a =
    record {
      node =
          record {
            link =
                other w₂ (6 * n + m) e (4 * n + m) (λ z. absurd (omega arith))
                ∙ other w₁ (5 * n + m) t (4 * n + m) (λ z. absurd (omega arith))
                ∙ get_or-set_same w (4 * n + m) 0 0 (omega arith);
            tick =
                other w₂ (6 * n + m) e (5 * n + m) (λ z. absurd (omega arith))
                ∙ get_or-set_same w₁ (5 * n + m) t 0 (omega (arith, length-set w (4 * n + m) 0));
            number = get_or-set_same w₂ (6 * n + m) e 0 (simp length-set (omega arith));
          };
      same =
          record {
            kept = simp length-set;
            links = λ i b. outside (4 * n + i) (λ z. absurd (omega arith)) (λ z. absurd (omega arith)) (λ z. absurd (omega arith));
            ticks = λ i b. outside (5 * n + i) (λ z. absurd (omega arith)) (λ z. absurd (omega arith)) (λ z. absurd (omega arith));
            numbers = λ i b. outside (6 * n + i) (λ z. absurd (omega arith)) (λ z. absurd (omega arith)) (λ z. absurd (omega arith));
          };
      front =
          take-set-le (4 * n) w₂ (6 * n + m) e (omega arith)
          ∙ take-set-le (4 * n) w₁ (5 * n + m) t (omega arith)
          ∙ take-set-le (4 * n) w (4 * n + m) 0 (omega arith);
    }
  where
    w₁ : List ℕ
    w₁ = set w (4 * n + m) 0

    w₂ : List ℕ
    w₂ = set w₁ (5 * n + m) t

    other : (v : List ℕ) (i x j : ℕ) → (j ≡ i → ⊥) → get_or (set v i x) j 0 ≡ get_or v j 0
    other v i x j ne = get_or-set_other v i j x 0 ne

    outside : (j : ℕ) → (j ≡ 4 * n + m → ⊥) → (j ≡ 5 * n + m → ⊥) → (j ≡ 6 * n + m → ⊥) → get_or (set w₂ (6 * n + m) e) j 0 ≡ get_or w j 0
    outside j a b c = other w₂ (6 * n + m) e j c ∙ other w₁ (5 * n + m) t j b ∙ other w (4 * n + m) 0 j a

-- ---- all queues: a start is put behind its queue
module _ {h t : List (List ℕ)} {w : List ℕ} {n m : ℕ} {ps : List NoteEvent} (p : Queues h t w n m ps) {s : NoteEvent} {c k tk e : ℕ} (lc : c < 16)
    (lk : k < 128)
    (room : m < n) (small : m + 1 < 2 ^ 32) (is : IsStart s c k tk e) (node : Noded w n m tk e) where
  abbrev all : List NoteEvent
  all = p.starts ++ (s ∷ [])

  past : (i : ℕ) → i < m → get_or all i no_start ≡ get_or p.starts i no_start
  past i l = get_or-append p.starts (s ∷ []) no_start i (omega (arith, p.count))

  now_one : get_or all m no_start ≡ s
  now_one = get_or_at p.starts s [] no_start m p.count

  -- its own queue is given, the others keep their links
  pushed : (h' : List (List ℕ)) (w' : List ℕ) → Grid h'
      → ((c' k' : ℕ) → ((c ≡ c') × (k ≡ k') → ⊥) → cell h' c' k' ≡ cell h c' k')
      → length w' ≡ length w
      → ((i : ℕ) → node_tick w' n i ≡ node_tick w n i)
      → ((i : ℕ) → node_number w' n i ≡ node_number w n i)
      → ((i : ℕ) → i < m → (at c k (get_or p.starts i no_start) ≡ true → ⊥) → node_link w' n i ≡ node_link w n i)
      → Run all w' n (m + 1) 0 (cell h' c k) (keep (at c k) ps ++ (s ∷ []))
      → Queues h' (put t c k (m + 1)) w' n (m + 1) (ps ++ (s ∷ []))
  pushed h' w' grid cells kept ticks numbers links run =
      record {
        starts = all;
        count = rw (length-append, p.count);
        room = omega arith;
        small = small;
        area = rw kept p.area;
        ticks = λ i l. ticks i ∙ ⊎_elim (λ b. p.ticks i b ∙ ap (λ (y : NoteEvent). y.tick) (sym (past i b))) (λ b. last_tick i (omega arith)) (by_lt i m);
        numbers =
            λ i l. numbers i
            ∙ ⊎_elim (λ b. p.numbers i b ∙ ap (λ (y : NoteEvent). y.number) (sym (past i b))) (λ b. last_number i (omega arith)) (by_lt i m);
        queue = λ c' k' lc' lk'. ⊎_elim (λ q. here c' k' q) (λ q. there c' k' lc' lk' q) (by_place c c' k k');
        inside = All-append Inside ps (s ∷ []) p.inside (record { channel = omega (arith, is.channel); key = omega (arith, is.key) }, tt);
        heads = grid;
        tails = put_grid p.tails c k (m + 1) lc lk;
      }
    where
      last_tick : (i : ℕ) → i ≡ m → node_tick w n i ≡ (get_or all i no_start).tick
      last_tick i q = rw (q, now_one, is.tick) node.tick

      last_number : (i : ℕ) → i ≡ m → node_number w n i ≡ (get_or all i no_start).number
      last_number i q = rw (q, now_one, is.number) node.number

      here : (c' k' : ℕ) → (c ≡ c') × (k ≡ k') → Run all w' n (cell (put t c k (m + 1)) c' k') 0 (cell h' c' k') (keep (at c' k') (ps ++ (s ∷ [])))
      here c' k' q =
          rw (← q.0, ← q.1, put_here p.tails c k (m + 1) lc lk, keep_more (at c k) ps s (at_is c k s (sym is.channel) (sym is.key))) run

      there : (c' k' : ℕ) → c' < 16 → k' < 128 → ((c ≡ c') × (k ≡ k') → ⊥)
          → Run all w' n (cell (put t c k (m + 1)) c' k') 0 (cell h' c' k') (keep (at c' k') (ps ++ (s ∷ [])))
      there c' k' lc' lk' q =
          rw (
            put_there p.tails c k (m + 1) lc lk c' k' q,
            cells c' k' q,
            keep_same (at c' k') ps s (at_not c' k' s (λ z. q (sym (z.0 ∙ is.channel), sym (z.1 ∙ is.key)))),
          )
          (run_kept p.starts all w w' n (λ y. at c' k' y ≡ true) (simp length-append (omega arith)) (λ i l. past i (omega (arith, p.count)))
          (λ i l z. links i (omega (arith, p.count)) (λ y. other c' k' q i z y)) (keep_passes (at c' k') ps) (p.queue c' k' lc' lk'))
        where
          other : (c' k' : ℕ) → ((c ≡ c') × (k ≡ k') → ⊥) → (i : ℕ) → at c' k' (get_or p.starts i no_start) ≡ true
              → at c k (get_or p.starts i no_start) ≡ true → ⊥
          other c' k' q i z y =
              let a = at_true c' k' (get_or p.starts i no_start) z in
              let b = at_true c k (get_or p.starts i no_start) y in
              q (b.0 ∙ sym a.0, b.1 ∙ sym a.1)

  first_queues : cell h c k ≡ 0 → Queues (put h c k (m + 1)) (put t c k (m + 1)) w n (m + 1) (ps ++ (s ∷ []))
  first_queues z =
      pushed (put h c k (m + 1)) w (put_grid p.heads c k (m + 1) lc lk) (put_there p.heads c k (m + 1) lc lk) refl (λ i. refl) (λ i. refl) (λ i l q. refl)
      (rw (put_here p.heads c k (m + 1) lc lk, run_empty (p.queue c k lc lk) z) (run_new p.starts w n m s p.count node.link 0 (omega arith)))

  -- the queue was empty
  pub pushed_first : {w₀ : List ℕ} → FrontKept n w₀ w → cell h c k ≡ 0 → Pushed (put h c k (m + 1)) (put t c k (m + 1)) w₀ w n m ps s
  pushed_first f z = record { queues = first_queues z; front = f }

  abbrev last : ℕ
  last = cell t c k

  abbrev w' : List ℕ
  w' = set w (4 * n + (last - 1)) (m + 1)

  behind_queues : 0 < cell h c k → Queues h (put t c k (m + 1)) w' n (m + 1) (ps ++ (s ∷ []))
  behind_queues full = go (keep (at c k) ps) refl (p.queue c k lc lk) (keep_passes (at c k) ps)
    where
      go : (q : List NoteEvent) → keep (at c k) ps ≡ q → Run p.starts w n last 0 (cell h c k) q → All (λ y. at c k y ≡ true) q
          → Queues h (put t c k (m + 1)) w' n (m + 1) (ps ++ (s ∷ []))
      go [] e r a = absurd (omega (arith, run_zero r))
      go (y ∷ q) e r a =
          let tail = run_tail (λ y. at c k y ≡ true) r a in
          let within = p.count in
          let area = p.area in
          pushed h w' p.heads (λ c' k' _. refl) (length-set w (4 * n + (last - 1)) (m + 1))
          (λ i. get_or-set_other w (4 * n + (last - 1)) (5 * n + i) (m + 1) 0 (λ z. absurd (omega arith)))
          (λ i. get_or-set_other w (4 * n + (last - 1)) (6 * n + i) (m + 1) 0 (λ z. absurd (omega arith)))
          (λ i l ne. get_or-set_other w (4 * n + (last - 1)) (4 * n + i) (m + 1) 0 (λ z. ne (let same : i ≡ last - 1 = omega arith in rw same tail.has)))
          (rw e
          (run_behind p.starts w' n m s p.count
          (get_or-set_other w (4 * n + (last - 1)) (4 * n + m) (m + 1) 0 (λ z. absurd (omega arith)) ∙ node.link)
          w last
          (get_or-set_same w (4 * n + (last - 1)) (m + 1) 0 (omega arith))
          (λ i l ne. get_or-set_other w (4 * n + (last - 1)) (4 * n + i) (m + 1) 0 (λ z. ne (omega arith)))
          r))

  -- the queue was not empty: its tail's link leads to the new start
  pub pushed_behind : {w₀ : List ℕ} → FrontKept n w₀ w → 0 < cell h c k → Pushed h (put t c k (m + 1)) w₀ w' n m ps s
  pushed_behind f z = record { queues = behind_queues z; front = take-set-le (4 * n) w (4 * n + (last - 1)) (m + 1) (omega arith) ∙ f }

-- ---- all queues: where the heads, the tails and the links of a queue that is not empty lead
module _ {h t : List (List ℕ)} {w : List ℕ} {n m : ℕ} {ps : List NoteEvent} (p : Queues h t w n m ps) {c k : ℕ} (lc : c < 16) (lk : k < 128)
    (full : 0 < cell h c k) where
  abbrev head : ℕ
  head = cell h c k

  pub record Leads : Type 0 where
    pub head_below : head ≤ m
    pub link_below : node_link w n (head - 1) ≤ m
    pub tail_above : 0 < cell t c k
    pub tail_below : cell t c k ≤ m
    pub room : m ≤ n
    pub small : m < 2 ^ 32
    pub area : 16 * n ≤ length w

  leads : Leads
  leads = go (p.queue c k lc lk)
    where
      go : {q : List NoteEvent} → Run p.starts w n (cell t c k) 0 head q → Leads
      go (none e) = absurd (omega arith)
      go {q} (one d r) =
          let tail = run_tail (λ _. Unit {0}) (one d r) (All-all (λ _. tt) q) in
          record {
            head_below = omega (arith, p.count);
            link_below = omega (arith, run_head r, p.count);
            tail_above = omega arith;
            tail_below = omega (arith, p.count);
            room = p.room;
            small = p.small;
            area = p.area;
          }

  -- the oldest start is taken
  pub popped : Popped (put h c k (node_link w n (head - 1))) t w n m c k ps (record { tick = node_tick w n (head - 1); number = node_number w n (head - 1) })
  popped = go (p.queue c k lc lk) refl (keep_passes (at c k) ps)
    where
      go : {q : List NoteEvent} → Run p.starts w n (cell t c k) 0 head q → keep (at c k) ps ≡ q → All (λ y. at c k y ≡ true) q
          → Popped (put h c k (node_link w n (head - 1))) t w n m c k ps (record { tick = node_tick w n (head - 1); number = node_number w n (head - 1) })
      go (none e) e' a = absurd (omega arith)
      go {q} (one {s = s} {q = rest} d r) e' a =
          let in_place = at_true c k s a.0 in
          let within = p.count in
          record {
            start = s;
            first = ap head? e';
            is =
                record {
                  channel = sym in_place.0;
                  key = sym in_place.1;
                  tick = ap (λ (y : NoteEvent). y.tick) (sym d.start) ∙ sym (p.ticks (head - 1) (omega arith));
                  number = ap (λ (y : NoteEvent). y.number) (sym d.start) ∙ sym (p.numbers (head - 1) (omega arith));
                };
            queues = λ o oc ok.
                record {
                  starts = p.starts;
                  count = p.count;
                  room = p.room;
                  small = p.small;
                  area = p.area;
                  ticks = p.ticks;
                  numbers = p.numbers;
                  queue = λ c' k' lc' lk'. ⊎_elim (λ q. here o oc ok r e' c' k' q) (λ q. there o oc ok c' k' lc' lk' q) (by_place c c' k k');
                  inside = all_without o Inside ps p.inside;
                  heads = put_grid p.heads c k (node_link w n (head - 1)) lc lk;
                  tails = p.tails;
                };
          }
        where
          here : (o : NoteEvent) → o.channel ≡ c → o.key ≡ k → Run p.starts w n (cell t c k) head (node_link w n (head - 1)) rest
              → keep (at c k) ps ≡ s ∷ rest
              → (c' k' : ℕ) → (c ≡ c') × (k ≡ k')
              → Run p.starts w n (cell t c' k') 0 (cell (put h c k (node_link w n (head - 1))) c' k') (keep (at c' k') (without_oldest o ps))
          here o oc ok r e' c' k' q =
              let same : at c k ≡ same_key o = rw (← oc, ← ok) in
              let left : keep (at c k) (without_oldest o ps) ≡ rest = ap (λ (f : NoteEvent → Bool). keep f (without_oldest o ps)) same
              ∙ without_here o ps (ap (λ (f : NoteEvent → Bool). keep f ps) (sym same) ∙ e') in
              rw (← q.0, ← q.1, put_here p.heads c k (node_link w n (head - 1)) lc lk, left) (run_low r)

          there : (o : NoteEvent) → o.channel ≡ c → o.key ≡ k → (c' k' : ℕ) → c' < 16 → k' < 128 → ((c ≡ c') × (k ≡ k') → ⊥)
              → Run p.starts w n (cell t c' k') 0 (cell (put h c k (node_link w n (head - 1))) c' k') (keep (at c' k') (without_oldest o ps))
          there o oc ok c' k' lc' lk' q =
              rw (
                put_there p.heads c k (node_link w n (head - 1)) lc lk c' k' q,
                without_there o (at c' k') ps
                    (λ y z. at_not c' k' y
                    (λ b. let a = at_true o.channel o.key y z in q (sym oc ∙ a.0 ∙ sym b.0, sym ok ∙ a.1 ∙ sym b.1))),
              )
              (p.queue c' k' lc' lk')

pub queued_leads : {h : List (List ℕ)} {w : List ℕ} {n c k : ℕ} (p : Queued h w n c k) → Leads p.queues p.channel p.key p.full
queued_leads p = leads p.queues p.channel p.key p.full

pub pushable_leads : {h t : List (List ℕ)} {w : List ℕ} {n m c k : ℕ} (p : Pushable h t w n m c k) (full : 0 < cell h c k)
    → Leads p.held.queues p.channel p.key full
pushable_leads p full = leads p.held.queues p.channel p.key full

-- ---- all queues: none pending
pub queues_start : {h t : List (List ℕ)} {w : List ℕ} {n : ℕ} → Empty h → Grid t → 16 * n ≤ length w → Queues h t w n 0 []
unfolding keep
queues_start e t a =
    record {
      starts = [];
      count = refl;
      room = omega arith;
      small = omega arith;
      area = a;
      ticks = λ i l. absurd (omega arith);
      numbers = λ i l. absurd (omega arith);
      queue = λ c k lc lk. none (e.none c k lc lk);
      inside = tt;
      heads = e.grid;
      tails = t;
    }

pub queues_end : {h t : List (List ℕ)} {w : List ℕ} {n m : ℕ} → Queues h t w n m [] → Empty h
unfolding keep
queues_end p = record { grid = p.heads; none = λ c k lc lk. run_zero (p.queue c k lc lk) }

-- where a head is 0, no start of that channel and key is pending
pub queue_empty : {h t : List (List ℕ)} {w : List ℕ} {n m : ℕ} {ps : List NoteEvent} (c k : ℕ) → c < 16 → k < 128 → cell h c k ≡ 0 → Queues h t w n m ps
    → keep (at c k) ps ≡ []
queue_empty c k lc lk z p = run_empty (p.queue c k lc lk) z

-- each pending start's queue has a head
pub pending_full : {h t : List (List ℕ)} {w : List ℕ} {n m : ℕ} {ps : List NoteEvent} → Queues h t w n m ps
    → All (λ (y : NoteEvent). Inside y × (0 < cell h y.channel y.key)) ps
pending_full {ps = ps} p =
    All-imp
    (λ y b. (b.0, run_full (p.queue y.channel y.key b.0.channel b.0.key) b.1))
    ps
    (All-both Inside (λ (y : NoteEvent). keep (at y.channel y.key) ps ≡ [] → ⊥) ps p.inside (own ps ps (λ c k e. e)))
