pub mod NotesLaws
