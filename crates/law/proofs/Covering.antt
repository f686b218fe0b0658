-- What a draw and an entry are accepted for, in words.
use Rattle.std.proofs.Common.{◌≡◌, ℕ, ◌<◌, true, cond, ◌&&◌, is_some, sym, refl, ap, ◌∙◌, lit<}
use Rattle.std.proofs.lemmas.Bool.{and_parts, and_from, eq-eqb, lt-ltb, ltb-true, true≢false}
use Rattle.vocabulary.proofs.Questions.{passed}
use Rattle.vocabulary.proofs.Some.{some_is, some_from}
use Rattle.register.specs.Meaning.{Consents}
use Rattle.directory.specs.State.{is_open}
use Rattle.hierarchy.specs.Laws.{Exactly}
use Rattle.ledger.specs.declared.place.Use.{Use}
use Rattle.ledger_laws.specs.Fates.{Fate, NeverIssued, StillOpen, WasEntered, WasHandedBack, HasLapsed, open_use}
use Rattle.rules.specs.State.{ObjectState, absent, plain, personal, exists, is_personal, belongs_to, owner_of, types_of, Tables, Bounds}
use Rattle.rules.specs.Views.{View}
use Rattle.rules.specs.Coverage.{holds_private, agrees, covers, Covered}
use Rattle.rules.specs.Numbers.{is_owner, draw_number, covers_permit, number}
use Rattle.rules.specs.declared.call.Call.TheVariants.{Enter}
use Rattle.law.specs.Account.{Past, tables_of, stands, permits, account_view}
use Rattle.law.specs.Law.{Drawable, Enterable}
use Rattle.law.proofs.Accepted.{DrawPassed, draw_passed, draw_passes}

pub own_object : (x : ObjectState) → is_personal x ≡ true → belongs_to (owner_of x) x ≡ true
own_object absent e = e
own_object plain e = e
own_object (personal o types) e = eq-eqb o o refl

owned_personal : (o : ℕ) (x : ObjectState) → belongs_to o x ≡ true → is_personal x ≡ true
owned_personal o absent e = e
owned_personal o plain e = e
owned_personal o (personal k types) e = refl

owned_exists : (o : ℕ) (x : ObjectState) → belongs_to o x ≡ true → exists x ≡ true
owned_exists o absent e = e
owned_exists o plain e = refl
owned_exists o (personal k types) e = refl

module _ (t : Tables) (word : Consents) (o : ℕ) (u : Use) where
  in_words : is_open (t.directory.session u.session) ≡ true → belongs_to o (t.object u.object) ≡ true → holds_private t u ≡ true → agrees word o u.purpose (t.object u.object) ≡ true → Covered t word o u
  unfolding agrees
  in_words session object granted agreed =
      let w = some_is 16 (λ d. types_of (t.object u.object) d && word o u.purpose d) agreed in
      let h = and_parts (types_of (t.object u.object) w.0) (word o u.purpose w.0) w.2 in
      record { session = session; object = object; granted = granted; data_type = w.0; small = w.1; of_object = h.0; stands = h.1 }

  agreed_so : Covered t word o u → agrees word o u.purpose (t.object u.object) ≡ true
  unfolding agrees
  agreed_so c =
      some_from 16 (λ d. types_of (t.object u.object) d && word o u.purpose d) c.data_type c.small
      (and_from (types_of (t.object u.object) c.data_type) (word o u.purpose c.data_type) c.of_object c.stands)

  -- the test and the words say the same
  pub covered_exactly : Exactly (covers t word o u ≡ true) (Covered t word o u)
  covered_exactly = (
    (λ e.
        let a = and_parts (is_open (t.directory.session u.session)) _ e in
        let b = and_parts (belongs_to o (t.object u.object)) _ a.1 in
        let c = and_parts (holds_private t u) _ b.1 in
        in_words a.0 b.0 c.0 c.1),
    (λ c. and_from _ _ c.session (and_from _ _ c.object (and_from _ _ c.granted (agreed_so c)))),
  )

-- a use that may be drawn is covered for the object's owner
pub passed_covers : (v : View) (u : Use) → DrawPassed v u → covers v.tables v.word (owner_of (v.tables.object u.object)) u ≡ true
passed_covers v u p = and_from _ _ p.session (and_from _ _ (own_object (v.tables.object u.object) p.sort) (and_from _ _ p.granted p.agreed))

module _ (past : Past) where
  pub draw_exactly : (u : Use) → Exactly (draw_number (account_view past) u ≡ 0) (Drawable past u)
  draw_exactly u = (
    (λ e.
        let p = draw_passed (account_view past) u e in
        let x = (tables_of past).object u.object in
        record {
          in_range = p.range;
          covered = in_words (tables_of past) (stands past) (owner_of x) u p.session (own_object x p.sort) p.granted p.agreed;
          few_open = ltb-true _ 8 p.few_open;
          few_issued = ltb-true _ 65535 p.few_issued;
        }),
    (λ d.
        let x = (tables_of past).object u.object in
        let c = d.covered in
        draw_passes (account_view past) u (record {
          range = d.in_range;
          there = owned_exists (owner_of x) x c.object;
          session = c.session;
          sort = owned_personal (owner_of x) x c.object;
          granted = c.granted;
          agreed = agreed_so (tables_of past) (stands past) (owner_of x) u c;
          few_open = lt-ltb _ 8 d.few_open;
          few_issued = lt-ltb _ 65535 d.few_issued;
        })),
  )

  -- an open permit and the cover of its use, by its fate
  entered_for : (o n : ℕ) (x : Fate) → (permits past o).fate n ≡ x → is_some (open_use x) ≡ true → covers_permit (account_view past) o (open_use x) ≡ true → o < 128 → Enterable past o n
  entered_for o n NeverIssued is there covered range = absurd (true≢false (sym there))
  entered_for o n (StillOpen u) is there covered range =
      record { in_range = range; drawn_for = u; still_open = is; covered = (covered_exactly (tables_of past) (stands past) o u).0 covered }
  entered_for o n WasEntered is there covered range = absurd (true≢false (sym there))
  entered_for o n WasHandedBack is there covered range = absurd (true≢false (sym there))
  entered_for o n HasLapsed is there covered range = absurd (true≢false (sym there))

  pub enter_exactly : (k : Bounds) (o n : ℕ) → Exactly (number k (account_view past) (Enter o n) ≡ 0) (Enterable past o n)
  enter_exactly k o n = (
    (λ e.
        let x = (permits past o).fate n in
        let range = passed (is_owner o) 1 (cond (is_some (open_use x)) (cond (covers_permit (account_view past) o (open_use x)) 0 19) 18) (lit< tt) e in
        let there = passed (is_some (open_use x)) 18 (cond (covers_permit (account_view past) o (open_use x)) 0 19) (lit< tt) range.1 in
        let covered = passed (covers_permit (account_view past) o (open_use x)) 19 0 (lit< tt) there.1 in
        entered_for o n x refl there.0 covered.0 (ltb-true o 128 range.0)),
    (λ m.
        let range : is_owner o ≡ true = lt-ltb o 128 m.in_range in
        let open-use = m.still_open in
        let covered : covers (tables_of past) (stands past) o m.drawn_for ≡ true = (covered_exactly (tables_of past) (stands past) o m.drawn_for).1 m.covered in
        simp range (ap (λ f. cond (is_some (open_use f)) (cond (covers_permit (account_view past) o (open_use f)) 0 19) 18) open-use ∙ ap (λ b. cond b 0 19) covered)),
  )
