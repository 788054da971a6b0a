-- What a hall keeps between its steps.
use Rattle.std.specs.Prelude.{◌≡◌, ◌<◌, ℕ, true, false, List, [], length, take, EachIndex, Some, None}
use Rattle.edge_model.specs.Files.{Files, main_of}
use Rattle.edge_model.specs.Images.{Each}
use Rattle.page_codec.specs.Page.{accepts, opened}
use Rattle.pager.specs.File.{page_stored}
use Rattle.pager.specs.Pages.{is_page_number}
use Rattle.session_hall.specs.Key.{codec_of}
use Rattle.session_hall.specs.Locks.{is_holding, is_writing}
use Rattle.session_hall.specs.Machine.{is_sealed, opened_by, counted_pages}
use Rattle.session_hall.specs.Session.{Session, change_of, session_at}
use Rattle.session_hall.specs.declared.lock.Lock.TheVariants.{Closed}

-- the image has Main and Journal as they read
pub record StandsAsRead (now image : Files) : Type 0 where
  pub main : image.main ≡ now.main
  pub journal : image.journal ≡ now.journal

-- A crash leaves Main and Journal as they read. A Main with a byte has no Journal beside it.
pub record IsHallSettled (now : Files) (images : Files → Type 0) : Type 0 where
  pub stands : Each images (StandsAsRead now)
  pub alone : 0 < length (main_of now) → now.journal ≡ None

-- What a session knows of the committed file.
pub record IsSessionSound (file : List ℕ) (session : Session) : Type 0 where
  -- while it shares, Main opens by its key to its count of pages
  pub opens : is_holding session.lock ≡ true → counted_pages (opened_by session.access file) ≡ Some session.pages
  -- unless it may write, it has changed nothing
  pub unchanged : is_writing session.lock ≡ false → (session.changes ≡ []) × (session.new_access ≡ None)
  -- a page 1 that it changed has the header of the committed one
  pub header : (page : List ℕ) → change_of 1 session.changes ≡ Some page
      → take 100 page ≡ take 100 (opened (codec_of session.access file) 1 (page_stored (codec_of session.access file) file 1))
  -- each page that its commit seals anew is accepted as it is committed
  pub accepted : (n : ℕ) → is_page_number session.pages n ≡ true → is_sealed session n ≡ true
      → accepts (codec_of session.access file) n (page_stored (codec_of session.access file) file n) ≡ true

-- each session is sound, and at most one may write
pub record AreSessionsSound (file : List ℕ) (sessions : List Session) : Type 0 where
  pub each : EachIndex sessions (λ k. IsSessionSound file (session_at sessions k))
  pub one : (j k : ℕ) → j < length sessions → k < length sessions
      → is_writing (session_at sessions j).lock ≡ true → is_writing (session_at sessions k).lock ≡ true → j ≡ k

pub record IsHallKept (now : Files) (images : Files → Type 0) (sessions : List Session) : Type 0 where
  pub settled : IsHallSettled now images
  pub sound : AreSessionsSound (main_of now) sessions

-- a session that is closed, and has changed nothing
pub record IsClosedSession (session : Session) : Type 0 where
  pub lock : session.lock ≡ Closed
  pub changes : session.changes ≡ []
  pub new_access : session.new_access ≡ None

-- all sessions are closed
abbrev pub AreAllClosed : List Session → Type 0
AreAllClosed sessions = EachIndex sessions (λ k. IsClosedSession (session_at sessions k))
