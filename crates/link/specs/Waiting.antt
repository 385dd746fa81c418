-- Both links keep the laws of a link: no frame is made up.
use Rattle.std.specs.Prelude.{◌≡◌, ℕ, ◌≤◌, min, Bool, true, false, cond, ◌⊎◌, List, [], ◌∷◌, ◌++◌, length, drop, Some, None, Option, nat_le, nat_lt, slice_index_or}
use mathlib.Core.List.Memᴰ
use mathlib.Core.List.{Memᴰ}
use Rattle.std.proofs.Common.{inl, inr, sym, ap, subst, arith, length-take}
use Rattle.std.specs.List.{range_with_len}
use Rattle.std.specs.Option.{option_map, option_to_list}
use Rattle.link.specs.declared.letter.Letter.{Letter}
use Rattle.link.specs.declared.letter.Letter.TheVariants.{Keep, Lose, Double, Hold}
use Rattle.link.specs.declared.plain.PlainLink.{PlainLink}
use Rattle.link.specs.declared.scripted.ScriptedLink.{ScriptedLink}
use Rattle.link.specs.declared.stored.Stored.{Stored}
use Rattle.link.specs.Link.{CarriesLaws}
use Rattle.link.specs.OfPlain.{plain}
use Rattle.link.specs.OfScripted.{Line, scripted}
use Rattle.link.specs.Queue.{joined, joined_by, first_of, short}
use Rattle.link.specs.Ring.{frame, nothing, place_of, queued, popped}
use Rattle.link.specs.Script.{holds, letter_of, through, holding}
use Rattle.link.specs.Lines.{plain-put, scripted-put}
use Rattle.link.specs.Rings.{queued-popped}

module _ {X : Type 0} (y : X) where
  in_joined : (size : ℕ) (xs : List X) (x : X) → Memᴰ y (joined size xs x) → Memᴰ y xs ⊎ (y ≡ x)
  in_joined size xs x = go (nat_lt (length xs) size)
    where
      last : Memᴰ y xs ⊎ Memᴰ y (x ∷ []) → Memᴰ y xs ⊎ (y ≡ x)
      last (inl i) = inl i
      last (inr i) = inr (Memᴰ.eq_of_singleton i)

      go : (b : Bool) → Memᴰ y (cond b (xs ++ x ∷ []) xs) → Memᴰ y xs ⊎ (y ≡ x)
      go true i = last (Memᴰ.append_cases xs i)
      go false i = inl i

  in_joined_by : (size : ℕ) (xs zs : List X) → Memᴰ y (joined_by size xs zs) → Memᴰ y xs ⊎ Memᴰ y zs
  in_joined_by size xs [] i = inl i
  in_joined_by size xs (z ∷ zs) i = go (in_joined_by size (joined size xs z) zs i)
    where
      one : Memᴰ y xs ⊎ (y ≡ z) → Memᴰ y xs ⊎ Memᴰ y (z ∷ zs)
      one (inl j) = inl j
      one (inr e) = inr (Memᴰ.head e)

      go : Memᴰ y (joined size xs z) ⊎ Memᴰ y zs → Memᴰ y xs ⊎ Memᴰ y (z ∷ zs)
      go (inl j) = one (in_joined size xs z j)
      go (inr j) = inr (Memᴰ.tail j)

  in_option : (o : Option X) → Memᴰ y (option_to_list o) → o ≡ Some y
  in_option None i = absurd (Memᴰ.not-nil i)
  in_option (Some x) i = ap Some (sym (Memᴰ.eq_of_singleton i))

  in_through : (c : Letter) (o : Option X) → Memᴰ y (through c o) → o ≡ Some y
  in_through c None i = absurd (Memᴰ.not-nil i)
  in_through Keep (Some x) i = ap Some (sym (Memᴰ.eq_of_singleton i))
  in_through Lose (Some x) i = absurd (Memᴰ.not-nil i)
  in_through Double (Some x) i = both (Memᴰ.cases_cons i)
    where
      both : (y ≡ x) ⊎ Memᴰ y (x ∷ []) → Some x ≡ Some y
      both (inl e) = ap Some (sym e)
      both (inr k) = ap Some (sym (Memᴰ.eq_of_singleton k))
  in_through Hold (Some x) i = absurd (Memᴰ.not-nil i)

  in_holding : (c : Letter) (o : Option X) → holding c o ≡ Some y → o ≡ Some y
  in_holding c None e = e
  in_holding c (Some x) e = go (holds c) e
    where
      go : (h : Bool) → cond h (Some x) None ≡ Some y → Some x ≡ Some y
      go true e = e
      go false e = absurd (let z : ◌≡◌ {A = ℕ} 0 1 = cc in omega arith)

  in_rest : (xs : List X) → Memᴰ y (drop 1 xs) → Memᴰ y xs
  in_rest [] i = i
  in_rest (x ∷ xs) i = Memᴰ.tail i

  is-first : (xs : List X) → first_of xs ≡ Some y → Memᴰ y xs
  is-first [] e = absurd (let z : ◌≡◌ {A = ℕ} 0 1 = cc in omega arith)
  is-first (x ∷ xs) e = Memᴰ.head (let s : y ≡ x = cc in s)

is-short : (limit : ℕ) (f g : List ℕ) → short limit f ≡ Some g → g ≡ f
is-short limit f g = go (nat_le (length f) limit)
  where
    go : (b : Bool) → cond b (Some f) None ≡ Some g → g ≡ f
    go true e = cc
    go false e = absurd (let z : ◌≡◌ {A = ℕ} 0 1 = cc in omega arith)

frame-short : (limit : ℕ) (s : Stored) → length (frame limit s) ≤ limit
frame-short limit s = omega (arith, length-take (min s.length limit) s.bytes)

module _ (limit : ℕ) where
  queued-short : (q : PlainLink) (g : List ℕ) → Memᴰ g (queued limit q) → length g ≤ limit
  queued-short q g i =
      let frame_at : ℕ → List ℕ = λ k. frame limit (slice_index_or q.frames (place_of q k) nothing) in
      let found = Memᴰ.of_map frame_at (range_with_len 0 q.count) i in
      subst (λ h. length h ≤ limit) found.2 (frame-short limit (slice_index_or q.frames (place_of q found.0) nothing))

  queued_rest : (q : PlainLink) (g : List ℕ) → Memᴰ g (queued limit (popped q)) → Memᴰ g (queued limit q)
  queued_rest q g i = in_rest g (queued limit q) (subst (Memᴰ g) (queued-popped limit q) i)

  pub plain_laws : CarriesLaws limit (plain limit)
  plain_laws = record {
    puts = λ q f g i. put q f g (in_joined_by g (length q.frames) (queued limit q) (option_to_list (short limit f)) (subst (Memᴰ g) (plain-put limit q f) i));
    takes = λ q g e. is-first g (queued limit q) e;
    leaves = queued_rest;
    short = queued-short;
  }
    where
      put : (q : PlainLink) (f g : List ℕ) → Memᴰ g (queued limit q) ⊎ Memᴰ g (option_to_list (short limit f)) → Memᴰ g (queued limit q) ⊎ (g ≡ f)
      put q f g (inl i) = inl i
      put q f g (inr i) = inr (is-short limit f g (in_option g (short limit f) i))

  held-short : (o : Option Stored) (g : List ℕ) → option_map (frame limit) o ≡ Some g → length g ≤ limit
  held-short None g e = absurd (let z : ◌≡◌ {A = ℕ} 0 1 = cc in omega arith)
  held-short (Some s) g e = let same : frame limit s ≡ g = cc in subst (λ h. length h ≤ limit) same (frame-short limit s)

  pub scripted_laws : CarriesLaws limit (scripted limit)
  scripted_laws = record {
    puts = λ x f g i. put x f g (Memᴰ.append_cases _ (subst (λ (l : Line). Memᴰ g (l.queue ++ option_to_list l.held)) (scripted-put limit x f) i));
    takes = λ x g e. Memᴰ.append_left _ (is-first g (queued limit x.queue) e);
    leaves = λ x g i. leave x g (Memᴰ.append_cases (queued limit (popped x.queue)) i);
    short = λ x g i. small x g (Memᴰ.append_cases (queued limit x.queue) i);
  }
    where
      held : ScriptedLink → Option (List ℕ)
      held x = option_map (frame limit) x.held

      passing : (x : ScriptedLink) (f : List ℕ) → List (List ℕ)
      passing x f = through (letter_of x.script) (short limit f)

      queues : (x : ScriptedLink) (f g : List ℕ) → Memᴰ g (queued limit x.queue) ⊎ Memᴰ g (passing x f)
          → Memᴰ g (queued limit x.queue ++ option_to_list (held x)) ⊎ (g ≡ f)
      queues x f g (inl i) = inl (Memᴰ.append_left _ i)
      queues x f g (inr i) = inr (is-short limit f g (in_through g (letter_of x.script) (short limit f) i))

      joins : (x : ScriptedLink) (f g : List ℕ) → Memᴰ g (joined_by (length x.queue.frames) (queued limit x.queue) (passing x f)) ⊎ Memᴰ g (option_to_list (held x))
          → Memᴰ g (queued limit x.queue ++ option_to_list (held x)) ⊎ (g ≡ f)
      joins x f g (inl i) = queues x f g (in_joined_by g (length x.queue.frames) (queued limit x.queue) (passing x f) i)
      joins x f g (inr i) = inl (Memᴰ.append_right (queued limit x.queue) i)

      put : (x : ScriptedLink) (f g : List ℕ)
          → Memᴰ g (joined_by (length x.queue.frames) (joined_by (length x.queue.frames) (queued limit x.queue) (passing x f)) (option_to_list (held x)))
          ⊎ Memᴰ g (option_to_list (holding (letter_of x.script) (short limit f)))
          → Memᴰ g (queued limit x.queue ++ option_to_list (held x)) ⊎ (g ≡ f)
      put x f g (inl i) =
          joins x f g (in_joined_by g (length x.queue.frames) (joined_by (length x.queue.frames) (queued limit x.queue) (passing x f)) (option_to_list (held x)) i)
      put x f g (inr i) =
          inr (is-short limit f g (in_holding g (letter_of x.script) (short limit f) (in_option g (holding (letter_of x.script) (short limit f)) i)))

      leave : (x : ScriptedLink) (g : List ℕ) → Memᴰ g (queued limit (popped x.queue)) ⊎ Memᴰ g (option_to_list (held x))
          → Memᴰ g (queued limit x.queue ++ option_to_list (held x))
      leave x g (inl i) = Memᴰ.append_left _ (queued_rest x.queue g i)
      leave x g (inr i) = Memᴰ.append_right (queued limit x.queue) i

      small : (x : ScriptedLink) (g : List ℕ) → Memᴰ g (queued limit x.queue) ⊎ Memᴰ g (option_to_list (held x)) → length g ≤ limit
      small x g (inl i) = queued-short x.queue g i
      small x g (inr i) = held-short x.held g (in_option g (held x) i)
