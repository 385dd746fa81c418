-- A new equation joins a reduced system: its number is cleared in all others.
use Rattle.std.proofs.Common.{◌≡◌, ℕ, suc, ◌<◌, ◌≢◌, Some, None, Option, sym, refl, ap, ◌∙◌, subst, arith}
use native.Mathlib.Decide.{ℕ_discrete, dec_lt}
use Rattle.algebra.proofs.Scalars.{Scalars, take_none, take_zero, take_all}
use Rattle.algebra.proofs.Equations.{Equation, Span, Span.given, Span.sums, Span.multiple, less, Bounded, less_back, span_less}
use Rattle.algebra.proofs.Systems.{System, In, Reduced, some_or_none, some_same}
use Rattle.algebra.proofs.Count.{count, count-more}

module _ {F P : Type 0} (K : Scalars F) where
  infixl 60 ◌⊞◌
  infixl 70 ◌⊡◌
  open K use {𝟘, 𝟙, ◌⊞◌, ◌⊡◌, neg, one_not_zero}

  place : {A : Type 0} → Dec A → ℕ → Equation F P → Option (Equation F P) → Option (Equation F P)
  place (yes _) m h o = Some h
  place (no _) m h None = None
  place (no _) m h (Some f) = Some (less K f (f.row m) h)

  -- the system with h, which begins at m
  pub insert : System F P → ℕ → Equation F P → System F P
  insert b m h k = place (ℕ_discrete k m) m h (b k)

  -- where an equation of the new system comes from
  pub data Was (b : System F P) (m : ℕ) (h : Equation F P) (k : ℕ) (f : Equation F P) : Type 0 where
    fresh : k ≡ m → f ≡ h → Was b m h k f
    old : k ≢ m → (g : Equation F P) → b k ≡ Some g → f ≡ less K g (g.row m) h → Was b m h k f

  module _ (b : System F P) (m : ℕ) (h : Equation F P) where
    was : (k : ℕ) (f : Equation F P) → insert b m h k ≡ Some f → Was b m h k f
    unfolding insert place
    was k f e = go (ℕ_discrete k m) (b k) refl e
      where
        go : (d : Dec (k ≡ m)) (o : Option (Equation F P)) → b k ≡ o → place d m h o ≡ Some f → Was b m h k f
        go (yes i) o _ e = fresh i (sym (some_same refl e))
        go (no _) None _ e = absurd (some_or_none e refl)
        go (no ne) (Some g) w e = old ne g w (sym (some_same refl e))

    pub insert_here : insert b m h m ≡ Some h
    unfolding insert place
    insert_here = go (ℕ_discrete m m)
      where
        go : (d : Dec (m ≡ m)) → place d m h (b m) ≡ Some h
        go (yes _) = refl
        go (no ne) = absurd (ne refl)

    pub insert_other : (k : ℕ) (g : Equation F P) → k ≢ m → b k ≡ Some g → insert b m h k ≡ Some (less K g (g.row m) h)
    unfolding insert place
    insert_other k g ne e = go (ℕ_discrete k m)
      where
        go : (d : Dec (k ≡ m)) → place d m h (b k) ≡ Some (less K g (g.row m) h)
        go (yes i) = absurd (ne i)
        go (no w) = ap (λ o. place {A = k ≡ m} (no w) m h o) e

    pub insert_none : (k : ℕ) → k ≢ m → b k ≡ None → insert b m h k ≡ None
    unfolding insert place
    insert_none k ne e = go (ℕ_discrete k m)
      where
        go : (d : Dec (k ≡ m)) → place d m h (b k) ≡ None
        go (yes i) = absurd (ne i)
        go (no w) = ap (λ o. place {A = k ≡ m} (no w) m h o) e

    pub insert_count : (n : ℕ) → m < n → b m ≡ None → count (insert b m h) n ≡ suc (count b n)
    insert_count n l e = count-more b (insert b m h) n m l e (h, insert_here) insert_none (λ k g ne w. (less K g (g.row m) h, insert_other k g ne w))

  module _ (n : ℕ) (b : System F P) (red : Reduced K n b) (m : ℕ) (h : Equation F P) (bound : Bounded K n h) (low : m < n)
      (one : h.row m ≡ 𝟙) (first : (j : ℕ) → j < m → h.row j ≡ 𝟘) (gone : (p : ℕ) (f : Equation F P) → b p ≡ Some f → h.row p ≡ 𝟘) where
    -- no equation began at m
    unused : (p : ℕ) (f : Equation F P) → b p ≡ Some f → p ≢ m
    unused p f e i = one_not_zero (sym one ∙ ap h.row (sym i) ∙ gone p f e)

    abbrev pub next : System F P
    next = insert b m h

    pub still_reduced : Reduced K n next
    still_reduced = record {
      bounded = λ p f e. bounded (was b m h p f e);
      within = λ p f e. within (was b m h p f e);
      leads = λ p f e. leads (was b m h p f e);
      begins = λ p f e. begins (was b m h p f e);
      clear = λ p o f g e e' ne. clear ne (was b m h p f e) (was b m h o g e');
    }
      where
        bounded : {p : ℕ} {f : Equation F P} → Was b m h p f → Bounded K n f
        bounded (fresh _ e) k l = ap (λ x. x.row k) e ∙ bound k l
        bounded {p} (old _ g w e) k l = ap (λ x. x.row k) e ∙ take_none K (g.row k) (g.row m) (h.row k) (bound k l) ∙ red.bounded p g w k l

        within : {p : ℕ} {f : Equation F P} → Was b m h p f → p < n
        within (fresh i _) = omega arith
        within {p} (old _ g e _) = red.within p g e

        leads : {p : ℕ} {f : Equation F P} → Was b m h p f → f.row p ≡ 𝟙
        leads {p} (fresh i e) = ap (λ x. x.row p) e ∙ ap h.row i ∙ one
        leads {p} (old _ g w e) = ap (λ x. x.row p) e ∙ take_none K (g.row p) (g.row m) (h.row p) (gone p g w) ∙ red.leads p g w

        begins : {p : ℕ} {f : Equation F P} → Was b m h p f → (k : ℕ) → k < p → f.row k ≡ 𝟘
        begins (fresh i e) k l = ap (λ x. x.row k) e ∙ first k (omega arith)
        begins {p} (old ne g w e) k l = ap (λ x. x.row k) e ∙ side (dec_lt m p) ∙ red.begins p g w k l
          where
            side : Dec (m < p) → g.row k ⊞ neg (g.row m) ⊡ h.row k ≡ g.row k
            side (yes u) = take_zero K (g.row k) (g.row m) (h.row k) (red.begins p g w m u)
            side (no u) = take_none K (g.row k) (g.row m) (h.row k) (first k (omega arith))

        clear : {p o : ℕ} {f g : Equation F P} → p ≢ o → Was b m h p f → Was b m h o g → g.row p ≡ 𝟘
        clear ne (fresh i _) (fresh i' _) = absurd (omega arith)
        clear {p} ne (fresh i _) (old _ g w e) =
            ap (λ x. x.row p) e ∙ ap (λ x. g.row x ⊞ neg (g.row m) ⊡ h.row x) i ∙ take_all K (g.row m) (h.row m) one
        clear {p} ne (old _ f w _) (fresh _ e) = ap (λ x. x.row p) e ∙ gone p f w
        clear {p} {o} ne (old _ f w _) (old _ g w' e) =
            ap (λ x. x.row p) e ∙ take_none K (g.row p) (g.row m) (h.row p) (gone p f w) ∙ red.clear p o f g w w' ne

    -- the old equations are combinations of the new ones
    pub old_in_next : (f : Equation F P) → In b f → Span K (In next) f
    old_in_next f (p, e) =
        subst (Span K (In next)) (less_back K f h (f.row m))
        (sums (given (p, insert_other b m h p f (unused p f e) e)) (multiple (f.row m) (given (m, insert_here b m h))))

    -- the new equations are combinations of the old ones and h
    pub next-from : {G : Equation F P → Type 0} → ((f : Equation F P) → In b f → Span K G f) → Span K G h → (f : Equation F P) → In next f → Span K G f
    next-from {G} all new f (p, e) = go (was b m h p f e)
      where
        go : Was b m h p f → Span K G f
        go (fresh _ i) = subst (Span K G) (sym i) new
        go (old _ g w i) = subst (Span K G) (sym i) (span_less K (g.row m) (all g (p, w)) new)
