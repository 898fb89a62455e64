-- What a line leaves as it was.
use Rattle.std.proofs.Common.{◌≡◌, ℕ, zero, suc, ◌<◌, Bool, true, false, cond, List, [], ◌∷◌, ◌++◌, length, set, Some, None, Ok, Err, Option, Result, sym, refl, ap, ◌∙◌, subst, arith, length-append, length-set}
use Rattle.std.specs.Option.{option_map}
use Rattle.std.specs.List.{slice_get}
use Rattle.logic.specs.Formulas.{WellFormed}
use Rattle.logic.proofs.Entering.{starts_well}
use Rattle.vocabulary.proofs.Calling.{entering_law}
use Rattle.formulas.specs.declared.calls.Call.TheVariants.{NewCarrier, NewProduct, NewVariable, NewSetName, EnterFormula}
use Rattle.logic.specs.Deciding.{is_predicate}
use Rattle.rules.specs.Theories.{standard}
use Rattle.states.specs.declared.entry.Entry.{Entry as EntryKept}
use Rattle.states.specs.declared.refusal.Refusal.TheVariants.{NotAPredicate, NotHeld}
use Rattle.entries.specs.Lists as entries
use Rattle.book.specs.declared.hold.Refused.{Refused}
use Rattle.book.specs.Books.{Model, Outcome, new_book, refuse, with_entries, on_entries, ended, enter, give, hold, lift, withdraw, is_own}
use Rattle.book.specs.Holds.{send_back}
use Rattle.book.specs.Concluding.{conclude}
use Rattle.book.specs.Runs.{Event, enters, gives, concludes, holds, previews, lifts, withdraws, asks_entry, asks_predicate, Does, Run}
use Rattle.commands.specs.declared.command.Call.{Call}
use Rattle.commands.specs.declared.command.Call.TheVariants.{Carrier, Product, Variable, Set, Formula, Free, Substitution, Give, Entry, Predicate}
use Rattle.commands.specs.declared.command.Command.{Command}
use Rattle.commands.specs.declared.command.Command.TheVariants as commands
use Rattle.commands.specs.declared.command.HoldCall.{HoldCall}
use Rattle.commands.specs.declared.command.HoldCall.TheVariants.{Preview, Lift, Withdraw}
use Rattle.replies.specs.declared.hand.Held.{Held}
use Rattle.replies.specs.declared.reply.Reply.{Reply}
use Rattle.replies.specs.Books.{after}
use Rattle.commands.specs.Commands.{Request, silent, not_understood, asks, append, draw, request, without_ending}
use Rattle.replies.specs.Hands.{undergo, lifted, withdrawn}
use Rattle.script.specs.Sessions.{Session, start, number, chosen, called, held_by, hold_called, done, current_book, with_book, Concludes, Did, Follows, After, OthersStay, NumbersStay, AlwaysCurrent, AlwaysRun, AlwaysWellFormed}
use Rattle.commands.specs.Words.{Bytes}

-- the book b' comes of one call on the book b, or is b
pub data Goes (b : Model) : Model → Type 0 where
  stays : Goes b b
  does : {b' : Model} → (x : Event) → Does standard b x b' → Goes b b'

-- what a line makes of the books: nothing, a new one, or another current one, that the current one has gone to
pub data Turns (s : Session) : List Model → Type 0 where
  kept : Turns s s.books
  begun : (n : ℕ) → Turns s (s.books ++ new_book n ∷ [])
  gone : (b b' : Model) → current_book s ≡ Some b → Goes b b' → Turns s (set s.books s.current b')

-- each command
goes_call : (b : Model) (c : Call) → Goes b (after b c)
goes_call b Carrier = does (enters NewCarrier (enter b NewCarrier).answer) (refl, refl)
goes_call b (Product s t) = does (enters (NewProduct s t) (enter b (NewProduct s t)).answer) (refl, refl)
goes_call b (Variable t) = does (enters (NewVariable t) (enter b (NewVariable t)).answer) (refl, refl)
goes_call b (Set t) = does (enters (NewSetName t) (enter b (NewSetName t)).answer) (refl, refl)
goes_call b (Formula k p q) = does (enters (EnterFormula k p q) (enter b (EnterFormula k p q)).answer) (refl, refl)
goes_call b (Free x n) = stays
goes_call b (Substitution q p x e) = stays
goes_call b (Give p) = does (gives p (give b p).answer) (refl, refl)
goes_call b (Entry e) = stays
goes_call b (Predicate p) = stays

lifted_book : (o : Result (Unit {0}) Refused) (x : Option Held) (b : Model) → (lifted o x b).book ≡ b
lifted_book (Ok u) x b = refl
lifted_book (Err e) x b = refl

withdrawn_book : (o : Result (ℕ × ℕ) Refused) (x : Option Held) (b : Model) → (withdrawn o x b).book ≡ b
withdrawn_book (Ok p) x b = refl
withdrawn_book (Err e) x b = refl

goes_hold_call : (d : HoldCall) (b : Model) (x : Option Held) → Goes b (undergo d b x).book
goes_hold_call Preview b None = stays
goes_hold_call Lift b None = stays
goes_hold_call Withdraw b None = stays
goes_hold_call Preview b (Some x) = stays
goes_hold_call Lift b (Some x) = does (lifts x.hold (lift b x.hold).answer) (refl, lifted_book (lift b x.hold).answer (Some x) (lift b x.hold).after)
goes_hold_call Withdraw b (Some x) = does (withdraws x.hold (withdraw b x.hold).answer) (refl, withdrawn_book (withdraw b x.hold).answer (Some x) (withdraw b x.hold).after)

turns_call : (s : Session) (c : Call) (o : Option Model) → current_book s ≡ o → Turns s (called s c o).books
turns_call s c None e = kept
turns_call s c (Some b) e = gone b (after b c) e (goes_call b c)

turns_hold : (s : Session) (n : ℕ) (o : Option Model) → current_book s ≡ o → Turns s (held_by s n o).books
turns_hold s n None e = kept
turns_hold s n (Some b) e = gone b (hold b n).after e (does (holds n (hold b n).answer) (refl, refl))

turns_hold_call : (s : Session) (d : HoldCall) (h : ℕ) (o : Option Model) (x : Option (Option Held)) → current_book s ≡ o → Turns s (hold_called s d h o x).books
turns_hold_call s d h None x e = kept
turns_hold_call s d h (Some b) None e = kept
turns_hold_call s d h (Some b) (Some x) e = gone b (undergo d b x).book e (goes_hold_call d b x)

turns_command : (s : Session) (c : Command) → Turns s (done s c).books
turns_command s (commands.Book n) = begun n
turns_command s (commands.Use k) = kept
turns_command s (commands.Call c) = turns_call s c (current_book s) refl
turns_command s (commands.Step x) = kept
turns_command s commands.Check = kept
turns_command s (commands.Hold e) = turns_hold s e (current_book s) refl
turns_command s (commands.HoldCall d h) = turns_hold_call s d h (current_book s) (slice_get s.holds h) refl

turns_conclusion : (s t : Session) (ns : List ℕ) (o : Option Model) (r : Reply) → current_book s ≡ o → Concludes s ns o r t → Turns s t.books
turns_conclusion s t ns None r e c = subst (λ u. Turns s u.books) (sym c.1) kept
turns_conclusion s t ns (Some b) r e c =
    let v = c.0 in
    let made = conclude b v ns in
    subst (λ u. Turns s u.books) (sym c.1.after) (gone b made.after e (does (concludes s.steps s.hypotheses ns made.answer) (v, c.1.judges, (refl, refl))))

turns_line : (s : Session) (q : Request) (r : Option Reply) (t : Session) → Did s q r t → Turns s t.books
turns_line s silent r t d = subst (λ u. Turns s u.books) (sym d.1) kept
turns_line s not_understood r t d = subst (λ u. Turns s u.books) (sym d.1) kept
turns_line s (asks c) r t d = subst (λ u. Turns s u.books) (sym d.1) (turns_command s c)
turns_line s (append ns) r t d = subst (λ u. Turns s u.books) (sym d.1) kept
turns_line s (draw ns) r t d = turns_conclusion s t ns (current_book s) d.0 refl d.2

turns : (s : Session) (q : Request) (r : Option Reply) (t : Session) → Follows s q r t → Turns s t.books
turns s q r t f = subst (λ v. Turns s v.books) (sym f.2) (turns_line s q r f.0 f.1)

-- lists of books
pushed : (bs : List Model) (b : Model) (k : ℕ) → k < length bs → slice_get (bs ++ b ∷ []) k ≡ slice_get bs k
pushed [] b k l = absurd (omega arith)
pushed (x ∷ bs) b zero l = refl
pushed (x ∷ bs) b (suc k) l = pushed bs b k (omega arith)

elsewhere : (bs : List Model) (i k : ℕ) (b : Model) → (k ≡ i → ⊥) → slice_get (set bs i b) k ≡ slice_get bs k
elsewhere [] i k b h = refl
elsewhere (x ∷ bs) zero zero b h = absurd (h refl)
elsewhere (x ∷ bs) zero (suc k) b h = refl
elsewhere (x ∷ bs) (suc i) zero b h = refl
elsewhere (x ∷ bs) (suc i) (suc k) b h = elsewhere bs i k b (λ e. h (ap suc e))

numbered : (bs : List Model) (i k : ℕ) (b b' : Model) → slice_get bs i ≡ Some b → b'.number ≡ b.number → option_map number (slice_get (set bs i b') k) ≡ option_map number (slice_get bs k)
numbered [] i k b b' e h = refl
numbered (x ∷ bs) zero zero b b' e h = let same : x ≡ b = cc in ap (λ n. Some n) (h ∙ sym (ap number same))
numbered (x ∷ bs) zero (suc k) b b' e h = refl
numbered (x ∷ bs) (suc i) zero b b' e h = refl
numbered (x ∷ bs) (suc i) (suc k) b b' e h = numbered bs i k b b' e h

-- a call leaves a book its number, and its vocabulary well formed
pub record Like (b b' : Model) : Type 0 where
  pub number : b'.number ≡ b.number
  pub formed : WellFormed b.vocabulary → WellFormed b'.vocabulary

alike : (b b' : Model) → b' ≡ b → Like b b'
alike b b' e = record { number = ap (λ x. x.number) e; formed = λ w. subst (λ x. WellFormed x.vocabulary) (sym e) w }

other_entries : (b b' : Model) (es : List EntryKept) → b' ≡ with_entries b es → Like b b'
other_entries b b' es e = record { number = ap (λ x. x.number) e; formed = λ w. subst (λ x. WellFormed x.vocabulary) (sym e) w }

by_cond : {A B : Type 0} (b b' : Model) (t : Bool) (x y : Outcome A B) → b' ≡ (cond t x y).after → (b' ≡ x.after → Like b b') → (b' ≡ y.after → Like b b') → Like b b'
by_cond b b' true x y e f g = f e
by_cond b b' false x y e f g = g e

like : (b b' : Model) (x : Event) → Does standard b x b' → Like b b'
like b b' (enters c answer) d =
    record {
      number = ap (λ x. x.number) d.1;
      formed = λ w. subst (λ x. WellFormed x.vocabulary) (sym d.1) (entering_law b.vocabulary w c).well_formed;
    }
like b b' (gives p answer) d =
    by_cond b b' (is_predicate b.vocabulary p) (on_entries b (entries.give b.entries p)) (refuse NotAPredicate b) d.1
    (λ e. other_entries b b' (entries.give b.entries p).after e) (λ e. alike b b' e)
like b b' (concludes xs hs cites answer) (Ok u, j, d) = other_entries b b' _ d.1
like b b' (concludes xs hs cites answer) (Err e, j, d) = alike b b' d.1
like b b' (holds n answer) d = other_entries b b' (entries.hold b.entries n).after d.1
like b b' (previews h answer) d = alike b b' d.1
like b b' (lifts h answer) d =
    by_cond b b' (is_own b h) (ended b h (entries.lift b.entries h.entry)) (refuse (send_back h NotHeld) b) d.1
    (λ e. other_entries b b' (entries.lift b.entries h.entry).after e) (λ e. alike b b' e)
like b b' (withdraws h answer) d =
    by_cond b b' (is_own b h) (ended b h (entries.withdraw b.entries h.entry)) (refuse (send_back h NotHeld) b) d.1
    (λ e. other_entries b b' (entries.withdraw b.entries h.entry).after e) (λ e. alike b b' e)
like b b' (asks_entry n answer) d = alike b b' d.1
like b b' (asks_predicate p answer) d = alike b b' d.1

goes_like : (b b' : Model) → Goes b b' → Like b b'
goes_like b b' stays = alike b b refl
goes_like b b' (does x d) = like b b' x d

-- what a line leaves
stay : (s : Session) (bs : List Model) → Turns s bs → (k : ℕ) → k < length s.books → (k ≡ s.current → ⊥) → slice_get bs k ≡ slice_get s.books k
stay s bs kept k l h = refl
stay s bs (begun n) k l h = pushed s.books (new_book n) k l
stay s bs (gone b b' e g) k l h = elsewhere s.books s.current k b' h

pub others_stay : OthersStay
others_stay s q r t f k l h = stay s t.books (turns s q r t f) k l h

keep : (s : Session) (bs : List Model) → Turns s bs → (k : ℕ) → k < length s.books → option_map number (slice_get bs k) ≡ option_map number (slice_get s.books k)
keep s bs kept k l = refl
keep s bs (begun n) k l = ap (option_map number) (pushed s.books (new_book n) k l)
keep s bs (gone b b' e g) k l = numbered s.books s.current k b b' e (goes_like b b' g).number

pub numbers_stay : NumbersStay
numbers_stay s q r t f k l = keep s t.books (turns s q r t f) k l

-- what holds of every book, if it holds of a new one and each call keeps it
module _ (P : Model → Type 0) (new : (n : ℕ) → P (new_book n)) (next : (b b' : Model) (x : Event) → Does standard b x b' → P b → P b') where
  abbrev Each : List Model → Type 0
  Each [] = Unit {0}
  Each (b ∷ bs) = P b × Each bs

  each_goes : (b b' : Model) → Goes b b' → P b → P b'
  each_goes b b' stays p = p
  each_goes b b' (does x d) p = next b b' x d p

  each_pushed : (bs : List Model) (n : ℕ) → Each bs → Each (bs ++ new_book n ∷ [])
  each_pushed [] n p = (new n, tt)
  each_pushed (b ∷ bs) n p = (p.0, each_pushed bs n p.1)

  each_set : (bs : List Model) (i : ℕ) (b : Model) → Each bs → P b → Each (set bs i b)
  each_set [] i b p h = tt
  each_set (x ∷ bs) zero b p h = (h, p.1)
  each_set (x ∷ bs) (suc i) b p h = (p.0, each_set bs i b p.1 h)

  each_one : (bs : List Model) (k : ℕ) (b : Model) → Each bs → slice_get bs k ≡ Some b → P b
  each_one [] k b p e = cc
  each_one (x ∷ bs) zero b p e = let same : x ≡ b = cc in subst P same p.0
  each_one (x ∷ bs) (suc k) b p e = each_one bs k b p.1 e

  each_turns : (s : Session) (bs : List Model) → Turns s bs → Each s.books → Each bs
  each_turns s bs kept p = p
  each_turns s bs (begun n) p = each_pushed s.books n p
  each_turns s bs (gone b b' e g) p = each_set s.books s.current b' p (each_goes b b' g (each_one s.books s.current b p e))

  each_after : (s : Session) (xs : List Bytes) (t : Session) → After s xs t → Each s.books → Each t.books
  each_after s [] t e p = subst (λ u. Each u.books) (sym e) p
  each_after s (x ∷ xs) t (r, u, f, a) p = each_after u xs t a (each_turns s u.books (turns s (request (without_ending x)) r u f) p)

  pub always : (xs : List Bytes) (t : Session) → After start xs t → (k : ℕ) (b : Model) → slice_get t.books k ≡ Some b → P b
  always xs t a k b e = each_one t.books k b (each_after start xs t a tt) e

-- each book comes of a run
abbrev Ran : Model → Type 0
Ran b = (calls : List Event) × Run standard b.number calls b

ran_on : (b b' : Model) (x : Event) → Does standard b x b' → Ran b → Ran b'
ran_on b b' x d (calls, run) = (x ∷ calls, (b, subst (λ n. Run standard n calls b) (sym (like b b' x d).number) run, d))

pub always_run : AlwaysRun
always_run = always Ran (λ n. ([], refl)) ran_on

pub always_well_formed : AlwaysWellFormed
always_well_formed = always (λ b. WellFormed b.vocabulary) (λ n. starts_well) (λ b b' x d w. (like b b' x d).formed w)

-- one of the books is the current one, if there is any
abbrev Current : Session → Type 0
Current s = 0 < length s.books → s.current < length s.books

within : (bs : List Model) (k : ℕ) (b : Model) → slice_get bs k ≡ Some b → k < length bs
within [] k b e = cc
within (x ∷ bs) zero b e = omega arith
within (x ∷ bs) (suc k) b e = let l = within bs k b e in omega arith

use_one : (s : Session) (k : ℕ) (o : Option Model) → slice_get s.books k ≡ o → Current s → 0 < length s.books → chosen s k o < length s.books
use_one s k None e h some = h some
use_one s k (Some b) e h some = within s.books k b e

put_one : (s : Session) (b : Model) → Current s → Current (with_book s b)
put_one s b h = λ some. let n = length-set s.books s.current b in omega (arith, h (omega arith))

current_call : (s : Session) (c : Call) (o : Option Model) → Current s → Current (called s c o)
current_call s c None h = h
current_call s c (Some b) h = put_one s (after b c) h

current_hold : (s : Session) (e : ℕ) (o : Option Model) → Current s → Current (held_by s e o)
current_hold s e None h = h
current_hold s e (Some b) h = put_one s (hold b e).after h

current_hold_call : (s : Session) (d : HoldCall) (k : ℕ) (o : Option Model) (x : Option (Option Held)) → Current s → Current (hold_called s d k o x)
current_hold_call s d k None x h = h
current_hold_call s d k (Some b) None h = h
current_hold_call s d k (Some b) (Some x) h = put_one s (undergo d b x).book h

current_command : (s : Session) (c : Command) → Current s → Current (done s c)
current_command s (commands.Book n) h = λ some. omega (arith, length-append s.books (new_book n ∷ []))
current_command s (commands.Use k) h = use_one s k (slice_get s.books k) refl h
current_command s (commands.Call c) h = current_call s c (current_book s) h
current_command s (commands.Step x) h = h
current_command s commands.Check h = h
current_command s (commands.Hold e) h = current_hold s e (current_book s) h
current_command s (commands.HoldCall d k) h = current_hold_call s d k (current_book s) (slice_get s.holds k) h

current_conclusion : (s t : Session) (ns : List ℕ) (o : Option Model) (r : Reply) → Concludes s ns o r t → Current s → Current t
current_conclusion s t ns None r c h = subst Current (sym c.1) h
current_conclusion s t ns (Some b) r c h = subst Current (sym c.1.after) (put_one s (conclude b c.0 ns).after h)

current_line : (s : Session) (q : Request) (r : Option Reply) (t : Session) → Did s q r t → Current s → Current t
current_line s silent r t d h = subst Current (sym d.1) h
current_line s not_understood r t d h = subst Current (sym d.1) h
current_line s (asks c) r t d h = subst Current (sym d.1) (current_command s c h)
current_line s (append ns) r t d h = subst Current (sym d.1) h
current_line s (draw ns) r t d h = current_conclusion s t ns (current_book s) d.0 d.2 h

current_after : (s : Session) (xs : List Bytes) (t : Session) → After s xs t → Current s → Current t
current_after s [] t e h = subst Current (sym e) h
current_after s (x ∷ xs) t (r, u, f, a) h =
    current_after u xs t a (subst Current (sym f.2) (current_line s (request (without_ending x)) r f.0 f.1 h))

pub always_current : AlwaysCurrent
always_current xs t a = current_after start xs t a (λ none. absurd (omega arith))
