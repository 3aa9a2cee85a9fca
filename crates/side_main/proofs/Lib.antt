pub mod HearLoop
