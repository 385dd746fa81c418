-- A reduced system stands for the equations accepted: the ones are combinations of the others. What follows, and how a new equation joins.
use Rattle.std.proofs.Common.{◌≡◌, ℕ, ◌<◌, ◌≢◌, ◌⊎◌, Some, None, sym, refl, ap, ◌∙◌, subst, inl, inr}
use Rattle.algebra.proofs.Scalars.{Scalars, zero_add, zero_mul, mul_zero, neg-mul, add_neg-right, one-mul}
use Rattle.algebra.proofs.Sums.{total-none}
use Rattle.algebra.proofs.Equations.{Equation, Span, Span.given, Span.nothing, Span.sums, Span.multiple, null, added, multiplied, less, Bounded, Solves, SolvesAll, AgreeAt, SeenAt, Known, span_less, span-through, span_solves, span-bounded, equation_path}
use Rattle.algebra.proofs.Systems.{System, In, Reduced, some_or_none, solution, zero_solution_solves, zero_row, begins_there, Alone, alone_value, agree_alone}
use Rattle.algebra.proofs.Insert.{insert, still_reduced, old_in_next, next-from, insert_here}

module _ {F P : Type 0} (K : Scalars F) (n : ℕ) where
  infixl 60 ◌⊞◌
  infixl 70 ◌⊡◌
  open K use {𝟘, 𝟙, ◌⊞◌, ◌⊡◌, neg, mul_assoc, mul_comm}

  -- the system is reduced, and its equations and the accepted ones are combinations of each other
  pub record Holds (b : System F P) (Acc : Equation F P → Type 0) : Type 0 where
    pub reduced : Reduced K n b
    pub from : (f : Equation F P) → In b f → Span K Acc f
    pub onto : (f : Equation F P) → Acc f → Span K (In b) f

  -- the system that is empty stands for no equation
  pub empty_holds : Holds (λ _. None) (λ _. ⊥)
  empty_holds = record {
    reduced = record {
      bounded = λ p f e. absurd (some_or_none e refl);
      within = λ p f e. absurd (some_or_none e refl);
      leads = λ p f e. absurd (some_or_none e refl);
      begins = λ p f e. absurd (some_or_none e refl);
      clear = λ p o f g e. absurd (some_or_none e refl);
    };
    from = λ f w. absurd (some_or_none w.1 refl);
    onto = λ f w. absurd w;
  }

  -- what is left of f once combinations of the system are taken from it
  pub record Rest (b : System F P) (f g : Equation F P) : Type 0 where
    pub taken : Equation F P
    pub span : Span K (In b) taken
    pub whole : f ≡ added K g taken
    pub gone : (p : ℕ) (t : Equation F P) → b p ≡ Some t → g.row p ≡ 𝟘

  module _ (b : System F P) (Acc : Equation F P → Type 0) (holds : Holds b Acc) where
    solves_in : (s : ℕ → P → F) → SolvesAll K n s Acc → SolvesAll K n s (In b)
    solves_in s h f x = span_solves K n s h (holds.from f x)

    solves_out : (s : ℕ → P → F) → SolvesAll K n s (In b) → SolvesAll K n s Acc
    solves_out s h f x = span_solves K n s h (holds.onto f x)

    -- some stream fits
    pub some-stream : (s : ℕ → P → F) × SolvesAll K n s Acc
    some-stream = (solution K n b n 𝟘, solves_out (solution K n b n 𝟘) (zero_solution_solves K n b holds.reduced))

    -- packet k is known where an equation begins at k and is 0 elsewhere, and there alone
    pub known : (k : ℕ) (f : Equation F P) → Alone K n b holds.reduced k f → (s : ℕ → P → F) → SolvesAll K n s Acc → (i : P) → s k i ≡ f.pay i
    known k f a s h = alone_value K n b holds.reduced k f a s (solves_in s h f (k, a.0))

    pub known_only : P → (k : ℕ) → k < n → AgreeAt K n Acc k → (f : Equation F P) × Alone K n b holds.reduced k f
    known_only i k l ag = agree_alone K n b holds.reduced i k l (λ s t h h'. ag s t (solves_out s h) (solves_out t h'))

    -- packet k is seen where an equation begins at k, and there alone
    pub seen : (k : ℕ) (f : Equation F P) → b k ≡ Some f → SeenAt K Acc k
    seen k f e = (f, holds.from f (k, e), holds.reduced.begins k f e, holds.reduced.leads k f e)

    pub seen-only : P → (k : ℕ) → k < n → SeenAt K Acc k → (f : Equation F P) × (b k ≡ Some f)
    seen-only i k l (g, sp, low, one) = begins_there K n b holds.reduced i g (span-through K holds.onto sp) k l low one

    module _ (f g : Equation F P) (rest : Rest b f g) where
      row_of : (k : ℕ) → f.row k ≡ g.row k ⊞ rest.taken.row k
      row_of k = ap (λ x. x.row k) rest.whole

      pay_of : (i : P) → f.pay i ≡ g.pay i ⊞ rest.taken.pay i
      pay_of i = ap (λ x. x.pay i) rest.whole

      pub zero_known : ((k : ℕ) → g.row k ≡ 𝟘) → Known K Acc f.row
      zero_known z = (
        rest.taken,
        span-through K holds.from rest.span,
        λ k. sym (row_of k ∙ ap (λ x. x ⊞ rest.taken.row k) (z k) ∙ zero_add K (rest.taken.row k)),
      )

      -- what a combination with the row of f leaves has the row of g
      left-row : (h : Equation F P) (k : ℕ) → h.row k ≡ f.row k → (less K h 𝟙 rest.taken).row k ≡ g.row k
      left-row h k e =
          ap (λ x. x ⊞ neg 𝟙 ⊡ rest.taken.row k) (e ∙ row_of k)
          ∙ ap (λ x. (g.row k ⊞ rest.taken.row k) ⊞ x) (neg-mul K 𝟙 (rest.taken.row k) ∙ ap neg (one-mul K (rest.taken.row k)))
          ∙ add_neg-right K (g.row k) (rest.taken.row k)

      pub known_zero : P → Known K Acc f.row → (k : ℕ) → k < n → g.row k ≡ 𝟘
      known_zero i (h, sp, e) k l =
          sym (left-row h k (e k))
          ∙ zero_row K n b holds.reduced (less K h 𝟙 rest.taken)
          (span_less K 𝟙 (span-through K holds.onto sp) rest.span)
          (λ p t w. left-row h p (e p) ∙ rest.gone p t w)
          i k l

      rest_back : less K f 𝟙 rest.taken ≡ g
      rest_back = equation_path K (less K f 𝟙 rest.taken) g (λ k. left-row f k refl)
          (λ i. ap (λ x. x ⊞ neg 𝟙 ⊡ rest.taken.pay i) (pay_of i)
          ∙ ap (λ x. (g.pay i ⊞ rest.taken.pay i) ⊞ x) (neg-mul K 𝟙 (rest.taken.pay i) ∙ ap neg (one-mul K (rest.taken.pay i)))
          ∙ add_neg-right K (g.pay i) (rest.taken.pay i))

      pub rest-bounded : Bounded K n f → Bounded K n g
      rest-bounded h = subst (Bounded K n) rest_back
          (span-bounded K n {G = λ x. (x ≡ f) ⊎ In b x} either (span_less K 𝟙 (given (inl refl)) (span-through K (λ x w. given (inr w)) rest.span)))
        where
          either : (x : Equation F P) → (x ≡ f) ⊎ In b x → Bounded K n x
          either x (inl e) = subst (Bounded K n) (sym e) h
          either x (inr w) = holds.reduced.bounded w.0 x w.1

      -- a stream that fits the accepted equations and f fits what is left
      solves_rest : (s : ℕ → P → F) → SolvesAll K n s Acc → Solves K n s f → Solves K n s g
      solves_rest s h hf = subst (Solves K n s) rest_back (span_solves K n {G = λ x. (x ≡ f) ⊎ (x ≡ rest.taken)} s either (span_less K 𝟙 (given (inl refl)) (given (inr refl))))
        where
          taken_solves : Solves K n s rest.taken
          taken_solves = span_solves K n s (solves_in s h) rest.span

          either : (x : Equation F P) → (x ≡ f) ⊎ (x ≡ rest.taken) → Solves K n s x
          either x (inl e) = subst (Solves K n s) (sym e) hf
          either x (inr e) = subst (Solves K n s) (sym e) taken_solves

      -- a contradiction: row 0 and payload not 0, so that no stream fits
      pub contradiction : ((k : ℕ) → k < n → g.row k ≡ 𝟘) → (i : P) → g.pay i ≢ 𝟘 → (s : ℕ → P → F) → SolvesAll K n s Acc → Solves K n s f → ⊥
      contradiction z i ne s h hf =
          ne (sym (solves_rest s h hf i) ∙ total-none K n (λ k. g.row k ⊡ s k i) (λ k l. ap (λ x. x ⊡ s k i) (z k l) ∙ zero_mul K (s k i)))

      -- the accepted ones, and f
      abbrev pub More : Equation F P → Type 0
      More x = (x ≡ f) ⊎ Acc x

      from_more : (x : Equation F P) → In b x → Span K More x
      from_more x w = span-through K (λ y v. given (inr v)) (holds.from x w)

      -- a repeat: what is left is 0
      pub repeat_holds : g ≡ null K → Holds b More
      repeat_holds z = record { reduced = holds.reduced; from = from_more; onto = go }
        where
          go : (x : Equation F P) → (x ≡ f) ⊎ Acc x → Span K (In b) x
          go x (inl e) =
              subst (Span K (In b)) (sym (e ∙ rest.whole ∙ ap (λ y. added K y rest.taken) z)) (sums nothing rest.span)
          go x (inr w) = holds.onto x w

      -- a fresh equation: what is left begins at p, and c makes it 1 there
      module _ (bounded : Bounded K n f) (p : ℕ) (low : p < n) (first : (j : ℕ) → j < p → g.row j ≡ 𝟘) (c : F) (one : c ⊡ g.row p ≡ 𝟙) where
        abbrev scaled : Equation F P
        scaled = multiplied K c g

        abbrev grown : System F P
        grown = insert K b p scaled

        zeros : (k : ℕ) → g.row k ≡ 𝟘 → scaled.row k ≡ 𝟘
        zeros k e = ap (λ x. c ⊡ x) e ∙ mul_zero K c

        bound : Bounded K n scaled
        bound k l = zeros k (rest-bounded bounded k l)

        unscaled : multiplied K (g.row p) scaled ≡ g
        unscaled = equation_path K (multiplied K (g.row p) scaled) g (λ k. back (g.row k)) (λ i. back (g.pay i))
          where
            back : (x : F) → g.row p ⊡ (c ⊡ x) ≡ x
            back x = sym (mul_assoc (g.row p) c x) ∙ ap (λ y. y ⊡ x) (mul_comm (g.row p) c ∙ one) ∙ one-mul K x

        old-grown : (x : Equation F P) → In b x → Span K (In grown) x
        old-grown = old_in_next K n b holds.reduced p scaled bound low one (λ j l. zeros j (first j l)) (λ o t w. zeros o (rest.gone o t w))

        pub fresh_holds : Holds grown More
        fresh_holds = record {
          reduced = still_reduced K n b holds.reduced p scaled bound low one (λ j l. zeros j (first j l)) (λ o t w. zeros o (rest.gone o t w));
          from = next-from K n b holds.reduced p scaled bound low one (λ j l. zeros j (first j l)) (λ o t w. zeros o (rest.gone o t w)) from_more
              (multiple c (subst (Span K More) rest_back (span_less K 𝟙 (given (inl refl)) (span-through K from_more rest.span))));
          onto = go;
        }
          where
            whole : Span K (In grown) f
            whole = subst (Span K (In grown)) (sym rest.whole)
                (sums (subst (Span K (In grown)) unscaled (multiple (g.row p) (given (p, insert_here K b p scaled)))) (span-through K old-grown rest.span))

            go : (x : Equation F P) → (x ≡ f) ⊎ Acc x → Span K (In grown) x
            go x (inl e) = subst (Span K (In grown)) (sym e) whole
            go x (inr w) = span-through K old-grown (holds.onto x w)
