-- Laws of the refusals and their numbers.
use Rattle.std.proofs.Common.{◌≡◌, ◌≢◌, Bool, true, false, List, [], ◌∷◌, ℕ, zero, suc, ◌+◌, ◌-◌, ◌<◌, ◌≤◌, length, get_or, Result, Ok, Err}
use Rattle.std.proofs.Common.{IsErrAnd, refl, sym, ap, ◌∙◌, arith}
use Rattle.std.proofs.lemmas.Result.{err_from_is_err_and}
use Rattle.refusals.specs.Numbers.{◌when◌, ◌▸◌, unless}
use Rattle.refusals.specs.Refusals.{number_of, refusals, by_number, refusing, checked}
use Rattle.refusals.specs.declared.Refusal.{Refusal}
use Rattle.refusals.specs.declared.Refusal.TheVariants.{WrongLength, WrongByte, WrongCount, WrongOffset, WrongCoefficient, WrongPoint, Late}
use Rattle.refusals.specs.declared.Refusal.TheVariants.{BadFirst, BadLater, NoCounts, WrongList, NoSolution, WrongProduct, PastLast}
use Rattle.refusals.specs.declared.Refusal.TheVariants.{TooShort, WrongDegree, ZeroTop, WrongTerms}

-- a refusal is the one with its number
pub by_own : (e : Refusal) → by_number (number_of e) ≡ e
by_own WrongLength = refl
by_own WrongByte = refl
by_own WrongCount = refl
by_own WrongOffset = refl
by_own WrongCoefficient = refl
by_own WrongPoint = refl
by_own Late = refl
by_own BadFirst = refl
by_own BadLater = refl
by_own NoCounts = refl
by_own WrongList = refl
by_own NoSolution = refl
by_own WrongProduct = refl
by_own PastLast = refl
by_own TooShort = refl
by_own WrongDegree = refl
by_own ZeroTop = refl
by_own WrongTerms = refl

-- the numbers of these refusals are those from k on
abbrev Numbered : List Refusal → ℕ → Type 0
Numbered [] k = Unit {0}
Numbered (e ∷ l) k = (number_of e ≡ k) × Numbered l (suc k)

numbered_at : (l : List Refusal) (k n : ℕ) → Numbered l k → n < length l → number_of (get_or l n WrongTerms) ≡ k + n
numbered_at [] k n h i = absurd (omega arith)
numbered_at (e ∷ l) k zero h i = h.0 ∙ omega arith
numbered_at (e ∷ l) k (suc n) h i = numbered_at l (suc k) n h.1 (omega arith) ∙ omega arith

all_numbered : Numbered refusals 1
all_numbered = (
  refl,
  (
    refl,
    (
      refl,
      (
        refl,
        (
          refl,
          (
            refl,
            (
              refl,
              (refl, (refl, (refl, (refl, (refl, (refl, (refl, (refl, (refl, (refl, (refl, tt))))))))))),
            ),
          ),
        ),
      ),
    ),
  ),
)

-- and the refusal with a number has it
pub number_by : (m : ℕ) → 0 < m → m ≤ 18 → number_of (by_number m) ≡ m
number_by m h i =
    numbered_at refusals 1 (m - 1) all_numbered (omega arith)
    ∙ omega arith

-- ---- what a check gives, and a call that comes after it

-- a check that passes finds no cause, and one that finds none passes
pub passed_none : (m : ℕ) {u : Unit {0}} → Ok u ≡ checked m → m ≡ 0
passed_none zero e = refl
passed_none (suc m) e = cc

pub none_passes : (m : ℕ) → m ≡ 0 → Ok tt ≡ checked m
none_passes m e = rw e refl

-- a check that refuses finds a cause, and gives its number's refusal
pub refused_some : (m : ℕ) {e : Refusal} → Err e ≡ checked m → m ≢ 0
refused_some zero e z = cc
refused_some (suc m) e z = absurd (omega arith)

pub refused_by : (m : ℕ) {e : Refusal} → Err e ≡ checked m → e ≡ by_number m
refused_by zero e = cc
refused_by (suc m) e = cc

pub some_refuses : (m : ℕ) → m ≢ 0 → refusing m ≡ checked m
some_refuses zero h = absurd (h refl)
some_refuses (suc m) h = refl

-- one cause, that holds or does not
pub cause_refuses : (m : ℕ) (t : Bool) → t ≡ true → refusing (suc m) ≡ checked (suc m when t)
cause_refuses m t e = rw e refl

pub cause_passes : (m : ℕ) (t : Bool) → t ≡ false → Ok tt ≡ checked (m when t)
cause_passes m t e = rw e refl

-- what is given where a number refuses, and where none does
module _ {A : Type 0} (f : ℕ → A) (a : A) where
  pub unless_none : (m : ℕ) → m ≡ 0 → unless m f a ≡ a
  unless_none m e = rw e refl

  pub unless_some : (m : ℕ) → m ≢ 0 → unless m f a ≡ f m
  unless_some zero h = absurd (h refl)
  unless_some (suc m) h = refl

  -- causes in order: the first refuses, or the next is asked
  pub unless_first : (m k : ℕ) → m ≢ 0 → unless (m ▸ k) f a ≡ f m
  unless_first zero k h = absurd (h refl)
  unless_first (suc m) k h = refl

  pub unless_then : (m k : ℕ) → m ≡ 0 → unless (m ▸ k) f a ≡ unless k f a
  unless_then m k e = rw e refl

-- a call that passes the refusal of a check on, and one that goes on where it passed
module _ {A : Type 0} (m : ℕ) where
  pub passed_on : {e : Refusal} → Err e ≡ checked m → (a : Result A Refusal) → Err e ≡ unless m refusing a
  passed_on h a = rw (refused_by m h) (sym (unless_some refusing a m (refused_some m h)))

  pub gone_on : {u : Unit {0}} → Ok u ≡ checked m → (a : Result A Refusal) → a ≡ unless m refusing a
  gone_on h a = sym (unless_none refusing a m (passed_none m h))

  -- of a check that is followed by other causes, k
  pub passed_on_first : (k : ℕ) {e : Refusal} → Err e ≡ checked m → (a : Result A Refusal) → Err e ≡ unless (m ▸ k) refusing a
  passed_on_first k h a = rw (refused_by m h) (sym (unless_first refusing a m k (refused_some m h)))

  pub gone_on_then : (k : ℕ) {u : Unit {0}} → Ok u ≡ checked m → (a : Result A Refusal) → unless k refusing a ≡ unless (m ▸ k) refusing a
  gone_on_then k h a = sym (unless_then refusing a m k (passed_none m h))

-- of what a call gives: a value is the one it shows, a, where no number refuses, and a refusal is that of a number
pub given_none : {A : Type 0} (m : ℕ) (a : A) {x : A} → Ok x ≡ unless m refusing (Ok a) → m ≡ 0
given_none zero a h = refl
given_none (suc m) a h = cc

pub given_is : {A : Type 0} (m : ℕ) (a : A) {x : A} → Ok x ≡ unless m refusing (Ok a) → x ≡ a
given_is zero a h = cc
given_is (suc m) a h = cc

pub given_some : {A : Type 0} (m : ℕ) (a : A) {e : Refusal} → Err e ≡ unless m refusing (Ok a) → m ≢ 0
given_some zero a h z = cc
given_some (suc m) a h z = absurd (omega arith)

pub given_by : {A : Type 0} (m : ℕ) (a : A) {e : Refusal} → Err e ≡ unless m refusing (Ok a) → e ≡ by_number m
given_by zero a h = cc
given_by (suc m) a h = cc

-- what `?` returns of a refusal is that refusal
pub passed_up : {A : Type 0} (r : Result A Refusal) {e : Refusal} → IsErrAnd r (λ y. y ≡ e) → r ≡ Err e
passed_up r h = let p = err_from_is_err_and r h in p.1 ∙ ap Err p.2
