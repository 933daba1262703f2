-- A count is shown slots and adds wholes: the state that its steps leave. Rests on Touches.
use Rattle.std.proofs.Common.{◌≡◌, ℕ, Bool, true, false, eqb, List, [], ◌∷◌, ◌++◌, sym, refl, ap, ◌∙◌}
use Rattle.rules.specs.declared.mode.Mode.{Mode}
use Rattle.rules.specs.Kinds.{Kinds, Lawful}
use Rattle.rules.specs.States.{State}
use Rattle.rules.specs.Moves.{on_left, on_right, Step, show, add, with_added, whole, shown}
use Rattle.rules.proofs.Weights.{neutral-right}
use Rattle.rules.proofs.Trees.{Tree, bare, leaf, node, slot_of, inside, drawn_place, Drawn}
use Rattle.rules.proofs.Children.{waiter, count_child}
use Rattle.rules.proofs.Pairs.{shown_pair}
use Rattle.rules.proofs.Puts.{put-here, put_other}
use Rattle.rules.proofs.Hangs.{topped}
use Rattle.rules.proofs.Touches.{show_own}
use Rattle.rules.proofs.Meets.{Rest}
use Rattle.rules.proofs.Shares.{added, whole_of, steps_added}
use Rattle.rules.proofs.Effects.{whole-made}

module _ {K T : Type 0} where
  -- a tree's top place does not hang again below itself
  abbrev pub TopOnce : Tree K T → Type 0
  TopOnce bare = Unit {0}
  TopOnce (leaf k) = Unit {0}
  TopOnce (node f s t q a b) = (inside f a ≡ false) × (inside f b ≡ false)

  -- nor in another tree
  abbrev pub TopAway : Tree K T → Tree K T → Type 0
  TopAway x y = (i : ℕ) → topped x i ≡ true → inside i y ≡ false

-- a count that joins changes neither the top nor who hangs there
module _ {K T : Type 0} (w : Kinds K T) where
  pub topped_count : (t : ℕ) (m : Mode) (x : Tree K T) (i : ℕ) → topped (count_child w t m x) i ≡ topped x i
  topped_count t m bare i = refl
  topped_count t m (leaf j) i = refl
  topped_count t m (node f s v q a b) i = refl

  pub inside_count : (t : ℕ) (m : Mode) (x : Tree K T) (i : ℕ) → inside i (count_child w t m x) ≡ inside i x
  inside_count t m bare i = refl
  inside_count t m (leaf j) i = refl
  inside_count t m (node f s v q a b) i = refl

  pub slot-count : (t : ℕ) (m : Mode) (x : Tree K T) → slot_of (count_child w t m x) ≡ slot_of x
  slot-count t m bare = refl
  slot-count t m (leaf j) = refl
  slot-count t m (node f s v q a b) = refl

  pub once_count : (t : ℕ) (m : Mode) (x : Tree K T) → TopOnce x → TopOnce (count_child w t m x)
  once_count t m bare o = tt
  once_count t m (leaf j) o = tt
  once_count t m (node f s v q a b) o = o

  added_count : (t : ℕ) (m : Mode) (lo hi : K) (m' : Mode) (x : Tree K T) → added w lo hi m' (count_child w t m x) ≡ added w lo hi m' x
  added_count t m lo hi m' bare = refl
  added_count t m lo hi m' (leaf j) = refl
  added_count t m lo hi m' (node f s v q a b) = refl

  whole-count : (t : ℕ) (m : Mode) (x : Tree K T) → whole_of w (count_child w t m x) ≡ whole_of w x
  whole-count t m bare = refl
  whole-count t m (leaf j) = refl
  whole-count t m (node f s v q a b) = refl

  pub steps-left : (t : ℕ) (m : Mode) (lo hi : K) (xs : List Step) (a b : Tree K T) → steps_added w lo hi xs (count_child w t m a) b ≡ steps_added w lo hi xs a b
  steps-left t m lo hi [] a b = refl
  steps-left t m lo hi (show on_left m' ∷ xs) a b = let ih = steps-left t m lo hi xs a b in let e = added_count t m lo hi m' a in cc
  steps-left t m lo hi (show on_right m' ∷ xs) a b = let ih = steps-left t m lo hi xs a b in cc
  steps-left t m lo hi (add on_left ∷ xs) a b = let ih = steps-left t m lo hi xs a b in let e = whole-count t m a in cc
  steps-left t m lo hi (add on_right ∷ xs) a b = let ih = steps-left t m lo hi xs a b in cc

  pub steps-right : (t : ℕ) (m : Mode) (lo hi : K) (xs : List Step) (a b : Tree K T) → steps_added w lo hi xs a (count_child w t m b) ≡ steps_added w lo hi xs a b
  steps-right t m lo hi [] a b = refl
  steps-right t m lo hi (show on_left m' ∷ xs) a b = let ih = steps-right t m lo hi xs a b in cc
  steps-right t m lo hi (show on_right m' ∷ xs) a b = let ih = steps-right t m lo hi xs a b in let e = added_count t m lo hi m' b in cc
  steps-right t m lo hi (add on_left ∷ xs) a b = let ih = steps-right t m lo hi xs a b in cc
  steps-right t m lo hi (add on_right ∷ xs) a b = let ih = steps-right t m lo hi xs a b in let e = whole-count t m b in cc

  -- the same of all steps
  pub slot_pair_left : (t : ℕ) (xs : List Step) (a b : Tree K T) → slot_of (shown_pair w t xs (a, b)).0 ≡ slot_of a
  slot_pair_left t [] a b = refl
  slot_pair_left t (show on_left m ∷ xs) a b = slot_pair_left t xs (count_child w t m a) b ∙ slot-count t m a
  slot_pair_left t (show on_right m ∷ xs) a b = slot_pair_left t xs a (count_child w t m b)
  slot_pair_left t (add side ∷ xs) a b = slot_pair_left t xs a b

  pub slot_pair_right : (t : ℕ) (xs : List Step) (a b : Tree K T) → slot_of (shown_pair w t xs (a, b)).1 ≡ slot_of b
  slot_pair_right t [] a b = refl
  slot_pair_right t (show on_left m ∷ xs) a b = slot_pair_right t xs (count_child w t m a) b
  slot_pair_right t (show on_right m ∷ xs) a b = slot_pair_right t xs a (count_child w t m b) ∙ slot-count t m b
  slot_pair_right t (add side ∷ xs) a b = slot_pair_right t xs a b

  pub topped_pair_left : (t : ℕ) (xs : List Step) (a b : Tree K T) (i : ℕ) → topped (shown_pair w t xs (a, b)).0 i ≡ topped a i
  topped_pair_left t [] a b i = refl
  topped_pair_left t (show on_left m ∷ xs) a b i = topped_pair_left t xs (count_child w t m a) b i ∙ topped_count t m a i
  topped_pair_left t (show on_right m ∷ xs) a b i = topped_pair_left t xs a (count_child w t m b) i
  topped_pair_left t (add side ∷ xs) a b i = topped_pair_left t xs a b i

  pub topped_pair_right : (t : ℕ) (xs : List Step) (a b : Tree K T) (i : ℕ) → topped (shown_pair w t xs (a, b)).1 i ≡ topped b i
  topped_pair_right t [] a b i = refl
  topped_pair_right t (show on_left m ∷ xs) a b i = topped_pair_right t xs (count_child w t m a) b i
  topped_pair_right t (show on_right m ∷ xs) a b i = topped_pair_right t xs a (count_child w t m b) i ∙ topped_count t m b i
  topped_pair_right t (add side ∷ xs) a b i = topped_pair_right t xs a b i

  -- what a count's steps leave: queues of tops may have grown, its tally has, all else is as it was
  pub record Counts (s s' : State K T) (t : ℕ) (sum : T) (touched : ℕ → Bool) : Type 0 where
    pub rest : Rest s s'
    pub place : s'.place ≡ s.place
    pub slot : s'.slot ≡ s.slot
    pub answer : s'.answer ≡ s.answer
    pub queue : (i : ℕ) → touched i ≡ false → s'.queue i ≡ s.queue i
    pub others : (i : ℕ) → eqb i t ≡ false → s'.counted i ≡ s.counted i
    pub tally : s'.counted t ≡ w.joined (s.counted t) sum

module _ {K T : Type 0} (w : Kinds K T) (l : Lawful w) (t : ℕ) (lo hi : K) where
  -- shown one slot
  pub shown_counts : (s : State K T) (m : Mode) (x : Tree K T) → Counts w s (shown w s t lo hi m (slot_of x)) t (added w lo hi m x) (topped x)
  shown_counts s m bare = record {
    rest = record { capacity = refl; requests = refl; asker = refl; decision = refl; desk = refl };
    place = refl;
    slot = refl;
    answer = refl;
    queue = λ i e. refl;
    others = λ i e. refl;
    tally = sym (neutral-right w l (s.counted t));
  }
  shown_counts s m (leaf j) = record {
    rest = record { capacity = refl; requests = refl; asker = refl; decision = refl; desk = refl };
    place = refl;
    slot = refl;
    answer = refl;
    queue = λ i e. refl;
    others = λ i e. put_other s.counted t _ i e;
    tally = put-here s.counted t _;
  }
  shown_counts s m (node f split v q a b) = record {
    rest = record { capacity = refl; requests = refl; asker = refl; decision = refl; desk = refl };
    place = refl;
    slot = refl;
    answer = refl;
    queue = λ i e. put_other s.queue f (s.queue f ++ (waiter t m ∷ [])) i e;
    others = λ i e. refl;
    tally = sym (neutral-right w l (s.counted t));
  }

  pub shown-drawn : (s : State K T) (m : Mode) (x : Tree K T) → TopOnce x → Drawn s.place s.queue x → Drawn (shown w s t lo hi m (slot_of x)).place (shown w s t lo hi m (slot_of x)).queue (count_child w t m x)
  shown-drawn s m bare o d = tt
  shown-drawn s m (leaf j) o d = tt
  shown-drawn s m (node f split v q a b) o d = show_own s.place s.queue f split v v q (waiter t m) a b o.0 o.1 d

  -- a slot's whole added
  pub added_counts : (s : State K T) (x : Tree K T) → Drawn s.place s.queue x → Counts w s (with_added w s t (whole w s (slot_of x))) t (whole_of w x) (λ i. false)
  added_counts s x d = record {
    rest = record { capacity = refl; requests = refl; asker = refl; decision = refl; desk = refl };
    place = refl;
    slot = refl;
    answer = refl;
    queue = λ i e. refl;
    others = λ i e. put_other s.counted t _ i e;
    tally = put-here s.counted t _ ∙ ap (w.joined (s.counted t)) (is_whole x d);
  }
    where
      is_whole : (x : Tree K T) → Drawn s.place s.queue x → whole w s (slot_of x) ≡ whole_of w x
      is_whole bare d = refl
      is_whole (leaf j) d = refl
      is_whole (node f split v q a b) d = whole-made w s f (drawn_place split v a b) d.0
